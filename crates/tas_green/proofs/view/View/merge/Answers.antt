use Rattle.std.proofs.lemmas.Grind.{common_steps}
use Rattle.std.proofs.Common.{◌∙◌, ap, arith}
use Rattle.tas_green.specs.Zone.{state_at, where_true, is_on_grid}
use Rattle.tas_green.specs.Grid.{stride}
use Rattle.tas_green.specs.Green.{IsLawful}
use Rattle.tas_green.proofs.GreenLemmas.{lawful_gained, merged_right}
use Rattle.tas_green.proofs.BoundLemmas.{gain_fits}
use Rattle.tas_green.proofs.view.View.merge.Given.{Over}
use Rattle.tas_green.proofs.view.View.merge.Goals as goal

pub absorb-kept-requires-clause-room : goal.absorb-kept-requires-clause-room
absorb-kept-requires-clause-room g c =
    let front = c.in-Some.ensures.front.0 in
    gain_fits c.self.inside.movie c.self.inside.states.items _ _ _ _ c.self.invariant.lawful.states (c.stride-step.ensures.stride ∙ ap stride c.len.ensures.len) front.within_b (omega (arith, c.self.invariant.room))

states_lawful : (g : Over) (c : goal.After-absorb-kept g) → IsLawful c.self.inside.movie c.absorb-kept.new.states.items
states_lawful g c =
    lawful_gained c.self.inside.movie c.self.inside.states.items c.absorb-kept.new.states.items
    (λ f. where_true (is_on_grid c.stride-step.result c.in-Some.front f) (state_at f c.states.result.now)) c.self.invariant.lawful.states c.absorb-kept.ensures.rising c.absorb-kept.ensures.states
    (λ f s e. merged_right c.self.inside.movie c.args.batch.now.cart c.args.batch.now.inputs c.args.batch.now.states c.in-Some.front c.stride-step.result f s c.states.ensures.right c.in-Some.ensures.front.1 c.in-Some.ensures.front.0
    (c.stride-step.ensures.stride ∙ ap stride c.len.ensures.len)
    (rw c.states.ensures.states at e))

pub invariant_of-self : goal.invariant_of-self
invariant_of-self g c = record {
  lawful = record { states = states_lawful g c; near = c.self.invariant.lawful.near };
  few = c.self.invariant.few;
  room = omega (arith, c.absorb-kept.ensures.capacity, c.self.invariant.room);
  near_room = c.self.invariant.near_room;
}

pub returns-clause-lawful : goal.returns-clause-lawful
returns-clause-lawful g c = record { states = states_lawful g c; near = c.self.invariant.lawful.near }

pub returns-clause-states : goal.returns-clause-states
returns-clause-states g c = grind (arith, common_steps)

pub returns-clause-near : goal.returns-clause-near
returns-clause-near g c = grind (arith, common_steps)

pub returns-clause-kept : goal.returns-clause-kept
returns-clause-kept g c = grind (arith, common_steps)
