use Rattle.std.proofs.Common.{◌∙◌, ◌+◌, ap, arith, take, filter, Some, refl}
use Rattle.vcs_machine.specs.Machine.{after}
use Rattle.tas_green.specs.Zone.{where_true, is_passed}
use Rattle.tas_green.specs.Grid.{stride}
use Rattle.tas_green.specs.Window.{is_near}
use Rattle.tas_green.proofs.GreenLemmas.{lawful_gained, shot_right}
use Rattle.tas_green.proofs.RunLemmas.{near_test}
use Rattle.tas_green.proofs.WindowLemmas.{near_filtered, states_filtered, states_kept, filled_is, few_near, near_kept}
use Rattle.tas_green.proofs.viewing.play_near.Goals as goal

pub play_both-requires-clause-start : goal.play_both-requires-clause-start
play_both-requires-clause-start g c = rw (c.cart.ensures, c.inputs.ensures.inputs) c.requires.start

pub play_both-requires-clause-within : goal.play_both-requires-clause-within
play_both-requires-clause-within g c = rw c.inputs.ensures.inputs (omega (arith, c.requires.within.1))

pub play_both-requires-clause-stride : goal.play_both-requires-clause-stride
play_both-requires-clause-stride g c = c.stride-step.ensures.positive

pub play_both-requires-clause-rising : goal.play_both-requires-clause-rising
play_both-requires-clause-rising g c = c.requires.lawful.rising

pub play_both-requires-clause-room : goal.play_both-requires-clause-room
play_both-requires-clause-room g c =
    let steps = c.stride-step.ensures.stride ∙ ap stride c.len.ensures.len in
    rw steps (omega (arith, c.requires.room))

pub play_both-requires-clause-window_rising : goal.play_both-requires-clause-window_rising
play_both-requires-clause-window_rising g c = rw c.retain_near.ensures.states (states_filtered c.args.movie.now (is_near (c.args.k + 1)) c.args.window.now.items c.requires.states).rising

pub play_both-requires-clause-window_near : goal.play_both-requires-clause-window_near
play_both-requires-clause-window_near g c = rw c.retain_near.ensures.states (near_filtered (c.args.k + 1) c.args.window.now.items)

pub play_both-requires-clause-window_room : goal.play_both-requires-clause-window_room
play_both-requires-clause-window_room g c = omega (arith, c.requires.window_room, c.retain_near.ensures.capacity)

pub returns-clause-answer : goal.returns-clause-answer
returns-clause-answer g c = rw (c.cart.ensures, c.inputs.ensures.inputs) at c.play_both.ensures.answer

pub returns-clause-picture : goal.returns-clause-picture
returns-clause-picture g c = rw (c.cart.ensures, c.inputs.ensures.inputs) at (c.play_both.ensures.picture c.args.k refl)

pub returns-clause-passed : goal.returns-clause-passed
returns-clause-passed g c =
    let steps = c.stride-step.ensures.stride ∙ ap stride c.len.ensures.len in
    λ f. rw (steps, c.cart.ensures, c.inputs.ensures.inputs) at (c.play_both.ensures.passed f)

pub returns-clause-filled : goal.returns-clause-filled
returns-clause-filled g c =
    filled_is c.args.movie.now c.args.start.frame (c.args.k + 1) c.args.window.now.items c.play_both.new.window.items
    (rw (c.retain_near.ensures.states, c.cart.ensures, c.inputs.ensures.inputs) at c.play_both.ensures.filled)

pub returns-clause-lawful : goal.returns-clause-lawful
returns-clause-lawful g c =
    lawful_gained c.args.movie.now c.args.green.now.items c.play_both.new.green.items
    (λ f. where_true (is_passed c.stride-step.result c.args.start.frame (c.args.k + 1) f) (Some (after c.cart.result.now (take f c.inputs.result.now)))) c.requires.lawful c.play_both.ensures.rising
    c.play_both.ensures.passed
    (λ f s e. shot_right c.args.movie.now c.cart.result.now c.inputs.result.now c.stride-step.result c.args.start.frame (c.args.k + 1) f s c.cart.ensures c.inputs.ensures.inputs (c.stride-step.ensures.stride ∙ ap stride c.len.ensures.len) (omega (arith, c.requires.within.1)) e)

pub returns-clause-states : goal.returns-clause-states
returns-clause-states g c =
    states_kept c.args.movie.now (near_test (c.args.k + 1)) c.args.start.frame (c.args.k + 1) (filter (λ kept. is_near (c.args.k + 1) kept.frame) c.args.window.now.items) c.play_both.new.window.items
    (states_filtered c.args.movie.now (is_near (c.args.k + 1)) c.args.window.now.items c.requires.states) c.play_both.ensures.window_rising
    (rw (c.retain_near.ensures.states, c.cart.ensures, c.inputs.ensures.inputs) at c.play_both.ensures.filled) (omega (arith, c.requires.within.1))

pub returns-clause-few : goal.returns-clause-few
returns-clause-few g c =
    let near = near_kept (c.args.k + 1) c.args.start.frame (c.args.k + 1) c.args.movie.now.cart c.args.movie.now.inputs (filter (λ kept. is_near (c.args.k + 1) kept.frame) c.args.window.now.items) c.play_both.new.window.items
    (near_filtered (c.args.k + 1) c.args.window.now.items) (rw (c.retain_near.ensures.states, c.cart.ensures, c.inputs.ensures.inputs) at c.play_both.ensures.filled) (omega arith) in
    omega (arith, few_near (c.args.k + 1) c.play_both.new.window.items c.play_both.ensures.window_rising near)
