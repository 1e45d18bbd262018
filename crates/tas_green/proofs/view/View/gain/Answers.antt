use Rattle.std.proofs.lemmas.Grind.{common_steps}
use Rattle.std.proofs.Common.{◌≡◌, ◌∙◌, ap, arith}
use Rattle.tas_green.specs.Zone.{state_at, first_of}
use Rattle.tas_green.specs.Grid.{stride}
use Rattle.tas_green.specs.Green.{IsLawful}
use Rattle.tas_green.proofs.MovingLemmas.{all_on_grid, lawful_joined}
use Rattle.tas_green.proofs.BoundLemmas.{gain_fits}
use Rattle.tas_green.proofs.view.View.gain.Given.{Over}
use Rattle.tas_green.proofs.view.View.gain.Goals as goal

pub absorb-requires-clause-stride : goal.absorb-requires-clause-stride
absorb-requires-clause-stride g c = c.stride.ensures.positive

pub absorb-requires-clause-rising : goal.absorb-requires-clause-rising
absorb-requires-clause-rising g c = c.self.invariant.lawful.states.rising

pub absorb-requires-clause-new_rising : goal.absorb-requires-clause-new_rising
absorb-requires-clause-new_rising g c = rw c.as_slice.ensures.value c.other.invariant

pub absorb-requires-clause-room : goal.absorb-requires-clause-room
absorb-requires-clause-room g c =
    gain_fits c.self.inside.movie c.self.inside.states.items _ _ _ _ c.self.invariant.lawful.states (c.stride.ensures.stride ∙ ap stride c.len-end.ensures.len) (omega (arith, c.len-end.ensures.len)) (omega (arith, c.self.invariant.room))

other_lawful : (g : Over) (c : goal.After-absorb g) → IsLawful c.self.inside.movie c.args.other.now
other_lawful g c = rw (← c.self.view_is) at c.requires

pub returns-clause-states : goal.returns-clause-states
returns-clause-states g c = rw (← c.self.view_is) (λ f.
    let is : c.as_slice.result.now ≡ c.args.other.now = c.as_slice.ensures.value ∙ c.other.view_is in
    let all = all_on_grid c.self.inside.movie c.args.other.now c.stride.result c.len-end.result (other_lawful g c) (c.stride.ensures.stride ∙ ap stride c.len-end.ensures.len) c.len-end.ensures.len f in
    (rw is at (c.absorb.ensures.states f)) ∙ ap (first_of (state_at f c.self.inside.states.items)) all)

states_lawful : (g : Over) (c : goal.After-absorb g) → IsLawful c.self.inside.movie c.absorb.new.states.items
states_lawful g c =
    let is : c.as_slice.result.now ≡ c.args.other.now = c.as_slice.ensures.value ∙ c.other.view_is in
    lawful_joined c.self.inside.movie c.self.inside.states.items c.args.other.now c.absorb.new.states.items c.stride.result c.len-end.result c.self.invariant.lawful.states (other_lawful g c) c.absorb.ensures.rising
    (rw is at c.absorb.ensures.states)

pub invariant_of-self : goal.invariant_of-self
invariant_of-self g c = record {
  lawful = record { states = states_lawful g c; near = c.self.invariant.lawful.near };
  few = c.self.invariant.few;
  room = omega (arith, c.absorb.ensures.capacity, c.self.invariant.room);
  near_room = c.self.invariant.near_room;
}

pub returns-clause-lawful : goal.returns-clause-lawful
returns-clause-lawful g c = record { states = states_lawful g c; near = c.self.invariant.lawful.near }

pub returns-clause-near : goal.returns-clause-near
returns-clause-near g c = grind (arith, common_steps)
