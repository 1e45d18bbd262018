use Rattle.std.proofs.lemmas.Grind.{common_steps}
use Rattle.std.proofs.Common.{◌≡◌, ◌∙◌, ap, arith}
use Rattle.tas_green.specs.Zone.{state_at, first_of}
use Rattle.tas_green.specs.Grid.{stride}
use Rattle.tas_green.proofs.MovingLemmas.{all_on_grid, lawful_joined}
use Rattle.tas_green.proofs.green.Green.gain.Goals as goal

pub returns-clause-lawful : goal.returns-clause-lawful
returns-clause-lawful g c =
    let is : c.as_slice-kept.result.now ≡ c.args.other.now = c.as_slice-kept.ensures.value ∙ c.other.view_is in
    lawful_joined c.args.movie.now c.args.self.now c.args.other.now c.absorb.new.states.items c.stride.result c.len-end.result c.requires.lawful c.requires.other c.absorb.ensures.rising
    (rw (c.reserve.ensures.items, c.self.view_is, is) at c.absorb.ensures.states)

pub returns-clause-states : goal.returns-clause-states
returns-clause-states g c = λ f.
    let is : c.as_slice-kept.result.now ≡ c.args.other.now = c.as_slice-kept.ensures.value ∙ c.other.view_is in
    let all = all_on_grid c.args.movie.now c.args.other.now c.stride.result c.len-end.result c.requires.other (c.stride.ensures.stride ∙ ap stride c.len-end.ensures.len) c.len-end.ensures.len f in
    (rw (c.reserve.ensures.items, c.self.view_is, is) at (c.absorb.ensures.states f)) ∙ ap (first_of (state_at f c.args.self.now)) all

pub absorb-requires-clause-new_rising : goal.absorb-requires-clause-new_rising
absorb-requires-clause-new_rising g c = rw c.as_slice-kept.ensures.value c.other.invariant

pub absorb-requires-clause-rising : goal.absorb-requires-clause-rising
absorb-requires-clause-rising g c = rw c.reserve.ensures.items c.self.invariant

pub absorb-requires-clause-stride : goal.absorb-requires-clause-stride
absorb-requires-clause-stride g c = c.stride.ensures.positive

pub absorb-requires-clause-room : goal.absorb-requires-clause-room
absorb-requires-clause-room g c = λ now rising less each. grind (arith, common_steps)

pub returns-clause-count : goal.returns-clause-count
returns-clause-count g c = grind (arith, common_steps)
