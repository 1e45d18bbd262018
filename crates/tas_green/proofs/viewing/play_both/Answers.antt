use Rattle.std.proofs.Common.{◌≡◌, ◌+◌, ◌-◌, ◌<◌, ◌≤◌, ◌∙◌, ap, length, take, arith, subst, ℕ, vec_len, vec_capacity}
use Rattle.vcs_machine.specs.Machine.{after}
use Rattle.tas_green.specs.Run.{answer_of}
use Rattle.tas_green.proofs.GridLemmas.{div_mono}
use Rattle.tas_green.proofs.RunLemmas.{HasKept, grid_test, near_test, after_more, answered, where_drawn, picture_drawn, kept_more, room_now}
use Rattle.tas_green.proofs.WindowLemmas.{few_near, near_kept}
use Rattle.tas_green.proofs.viewing.play_both.Goals as goal

pub keep_on_grid-requires-clause-room : goal.keep_on_grid-requires-clause-room
keep_on_grid-requires-clause-room g c =
    let last = c.args.span.end - 1 in
    let whole : c.args.span.end - 1 + 1 ≡ c.args.span.end = omega (arith, c.requires.order) in
    rw whole at (room_now c.args.span.stride last c.args.span.end (vec_len c.pass_both-state.new.green) (vec_capacity c.pass_both-state.new.green) c.requires.stride (omega (arith, c.requires.order)) (omega (arith, c.requires.room, c.pass_both-state.ensures.most, c.pass_both-state.ensures.capacity)))

pub keep_near-requires-clause-room : goal.keep_near-requires-clause-room
keep_near-requires-clause-room g c =
    let near = near_kept c.args.span.end c.args.span.start.frame (c.args.span.end - 1) c.args.cart.now c.args.inputs.now c.args.window.now.items c.pass_both-state.new.window.items c.requires.window_near c.pass_both-state.ensures.filled (omega arith) in
    let few = few_near c.args.span.end c.pass_both-state.new.window.items c.pass_both-state.ensures.window_rising near in
    omega (arith, few, c.requires.window_room, c.pass_both-state.ensures.window_capacity)

pub returns-clause-answer : goal.returns-clause-answer
returns-clause-answer g c =
    let cart = c.args.cart.now in
    let inputs = c.args.inputs.now in
    let last = c.args.span.end - 1 in
    let whole : c.args.span.end - 1 + 1 ≡ c.args.span.end = omega (arith, c.requires.order) in
    let lt : c.args.span.end - 1 < length inputs = omega (arith, c.requires.order, c.requires.within) in
    let played = after_more cart inputs last c.pass_both-state.result c.play-end.new.state _ c.play-end.ensures.state c.pass_both-state.ensures.state lt in
    answered c.play-end.result c.play-end.new.state.halt c.play-end.ensures.halted ∙ ap (λ s. answer_of s.halt) (played ∙ ap (λ k. after cart (take k inputs)) whole)

pub returns-clause-picture : goal.returns-clause-picture
returns-clause-picture g c = λ k is.
    let cart = c.args.cart.now in
    let inputs = c.args.inputs.now in
    let last = c.args.span.end - 1 in
    let here : k + 1 ≡ c.args.span.end - 1 + 1 = omega (arith, is, c.requires.order) in
    let lt : c.args.span.end - 1 < length inputs = omega (arith, c.requires.order, c.requires.within) in
    where_drawn c.play-end.result c.play-end.new.state.halt c.play-end.ensures.halted _
    (picture_drawn cart inputs last k c.pass_both-state.result c.play-end.new.state _ c.play-end.new.picture c.play-end.result here c.play-end.ensures.picture c.play-end.ensures.halted c.pass_both-state.ensures.state lt)

pub returns-clause-passed : goal.returns-clause-passed
returns-clause-passed g c =
    let cart = c.args.cart.now in
    let inputs = c.args.inputs.now in
    let last = c.args.span.end - 1 in
    let whole : c.args.span.end - 1 + 1 ≡ c.args.span.end = omega (arith, c.requires.order) in
    let lt : c.args.span.end - 1 < length inputs = omega (arith, c.requires.order, c.requires.within) in
    let below : c.args.span.end - 1 < c.args.span.end = omega (arith, c.requires.order) in
    let from : c.args.span.start.frame ≤ c.args.span.end - 1 = omega (arith, c.requires.order) in
    let next = after_more cart inputs last c.pass_both-state.result c.play-end.new.state _ c.play-end.ensures.state c.pass_both-state.ensures.state lt in
    subst (λ (to : ℕ). HasKept (grid_test c.args.span.stride) c.args.green.now.items cart inputs c.args.span.start.frame to c.keep_on_grid.new.states.items) whole
    (kept_more (grid_test c.args.span.stride) c.args.green.now.items c.pass_both-state.new.green.items c.keep_on_grid.new.states.items cart inputs c.args.span.start.frame last c.args.span.end c.play-end.new.state from below next
    c.pass_both-state.ensures.passed
    (rw whole c.keep_on_grid.ensures.states))

pub returns-clause-filled : goal.returns-clause-filled
returns-clause-filled g c =
    let cart = c.args.cart.now in
    let inputs = c.args.inputs.now in
    let last = c.args.span.end - 1 in
    let whole : c.args.span.end - 1 + 1 ≡ c.args.span.end = omega (arith, c.requires.order) in
    let lt : c.args.span.end - 1 < length inputs = omega (arith, c.requires.order, c.requires.within) in
    let below : c.args.span.end - 1 < c.args.span.end = omega (arith, c.requires.order) in
    let from : c.args.span.start.frame ≤ c.args.span.end - 1 = omega (arith, c.requires.order) in
    let next = after_more cart inputs last c.pass_both-state.result c.play-end.new.state _ c.play-end.ensures.state c.pass_both-state.ensures.state lt in
    subst (λ (to : ℕ). HasKept (near_test c.args.span.end) c.args.window.now.items cart inputs c.args.span.start.frame to c.keep_near.new.states.items) whole
    (kept_more (near_test c.args.span.end) c.args.window.now.items c.pass_both-state.new.window.items c.keep_near.new.states.items cart inputs c.args.span.start.frame last c.args.span.end c.play-end.new.state from below next
    c.pass_both-state.ensures.filled
    (rw whole c.keep_near.ensures.states))

pub pass_both-state-requires-clause-room : goal.pass_both-state-requires-clause-room
pass_both-state-requires-clause-room g c =
    let less : c.args.span.end - 1 ≤ c.args.span.end = omega (arith, c.requires.order) in
    omega (arith, c.requires.room, div_mono (c.args.span.end - 1) c.args.span.end c.args.span.stride c.requires.stride less)
