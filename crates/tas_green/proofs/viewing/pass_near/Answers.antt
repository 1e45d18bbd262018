use Rattle.std.proofs.Common.{◌∙◌, ap, arith, take, filter, Some}
use Rattle.vcs_machine.specs.Machine.{after}
use Rattle.tas_green.specs.Zone.{where_true, is_passed}
use Rattle.tas_green.specs.Grid.{stride}
use Rattle.tas_green.specs.Window.{is_near}
use Rattle.tas_green.proofs.GreenLemmas.{lawful_gained, shot_right}
use Rattle.tas_green.proofs.RunLemmas.{near_test}
use Rattle.tas_green.proofs.WindowLemmas.{near_filtered, states_filtered, states_kept, filled_is, few_near, near_kept}
use Rattle.tas_green.proofs.viewing.pass_near.Goals as goal

pub pass_both-state-requires-clause-start : goal.pass_both-state-requires-clause-start
pass_both-state-requires-clause-start g c = rw (c.cart.ensures, c.inputs.ensures.inputs) c.requires.start

pub pass_both-state-requires-clause-within : goal.pass_both-state-requires-clause-within
pass_both-state-requires-clause-within g c = rw c.inputs.ensures.inputs c.requires.within.1

pub pass_both-state-requires-clause-stride : goal.pass_both-state-requires-clause-stride
pass_both-state-requires-clause-stride g c = c.stride-step.ensures.positive

pub pass_both-state-requires-clause-rising : goal.pass_both-state-requires-clause-rising
pass_both-state-requires-clause-rising g c = c.requires.lawful.rising

pub pass_both-state-requires-clause-room : goal.pass_both-state-requires-clause-room
pass_both-state-requires-clause-room g c =
    let steps = c.stride-step.ensures.stride ∙ ap stride c.len.ensures.len in
    rw steps (omega (arith, c.requires.room))

pub pass_both-state-requires-clause-window_rising : goal.pass_both-state-requires-clause-window_rising
pass_both-state-requires-clause-window_rising g c = rw c.retain_near.ensures.states (states_filtered c.args.movie.now (is_near c.args.end) c.args.window.now.items c.requires.states).rising

pub pass_both-state-requires-clause-window_near : goal.pass_both-state-requires-clause-window_near
pass_both-state-requires-clause-window_near g c = rw c.retain_near.ensures.states (near_filtered c.args.end c.args.window.now.items)

pub pass_both-state-requires-clause-window_room : goal.pass_both-state-requires-clause-window_room
pass_both-state-requires-clause-window_room g c = omega (arith, c.requires.window_room, c.retain_near.ensures.capacity)

pub returns-clause-passed : goal.returns-clause-passed
returns-clause-passed g c =
    let steps = c.stride-step.ensures.stride ∙ ap stride c.len.ensures.len in
    λ f. rw (steps, c.cart.ensures, c.inputs.ensures.inputs) at (c.pass_both-state.ensures.passed f)

pub returns-clause-filled : goal.returns-clause-filled
returns-clause-filled g c =
    filled_is c.args.movie.now c.args.start.frame c.args.end c.args.window.now.items c.pass_both-state.new.window.items
    (rw (c.retain_near.ensures.states, c.cart.ensures, c.inputs.ensures.inputs) at c.pass_both-state.ensures.filled)

pub returns-clause-lawful : goal.returns-clause-lawful
returns-clause-lawful g c =
    lawful_gained c.args.movie.now c.args.green.now.items c.pass_both-state.new.green.items
    (λ f. where_true (is_passed c.stride-step.result c.args.start.frame c.args.end f) (Some (after c.cart.result.now (take f c.inputs.result.now)))) c.requires.lawful c.pass_both-state.ensures.rising
    c.pass_both-state.ensures.passed
    (λ f s e. shot_right c.args.movie.now c.cart.result.now c.inputs.result.now c.stride-step.result c.args.start.frame c.args.end f s c.cart.ensures c.inputs.ensures.inputs (c.stride-step.ensures.stride ∙ ap stride c.len.ensures.len) (omega (arith, c.requires.within.1)) e)

pub returns-clause-states : goal.returns-clause-states
returns-clause-states g c =
    states_kept c.args.movie.now (near_test c.args.end) c.args.start.frame c.args.end (filter (λ kept. is_near c.args.end kept.frame) c.args.window.now.items) c.pass_both-state.new.window.items
    (states_filtered c.args.movie.now (is_near c.args.end) c.args.window.now.items c.requires.states) c.pass_both-state.ensures.window_rising
    (rw (c.retain_near.ensures.states, c.cart.ensures, c.inputs.ensures.inputs) at c.pass_both-state.ensures.filled) (omega (arith, c.requires.within.1))

pub returns-clause-few : goal.returns-clause-few
returns-clause-few g c =
    let near = near_kept c.args.end c.args.start.frame c.args.end c.args.movie.now.cart c.args.movie.now.inputs (filter (λ kept. is_near c.args.end kept.frame) c.args.window.now.items) c.pass_both-state.new.window.items
    (near_filtered c.args.end c.args.window.now.items) (rw (c.retain_near.ensures.states, c.cart.ensures, c.inputs.ensures.inputs) at c.pass_both-state.ensures.filled) (omega arith) in
    omega (arith, few_near c.args.end c.pass_both-state.new.window.items c.pass_both-state.ensures.window_rising near)

pub returns-clause-state : goal.returns-clause-state
returns-clause-state g c = rw (c.cart.ensures, c.inputs.ensures.inputs) at c.pass_both-state.ensures.state

pub returns-clause-ran : goal.returns-clause-ran
returns-clause-ran g c = omega (arith, c.count.ensures, c.pass_both-state.ensures.meter, c.new-meter.ensures, c.requires.within.0)
