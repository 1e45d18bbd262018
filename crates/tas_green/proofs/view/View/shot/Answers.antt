use Rattle.std.proofs.lemmas.Grind.{common_steps}
use Rattle.std.proofs.Common.{refl, ◌≡◌, ◌+◌, ◌∙◌, ap, arith, Some, take, length}
use Rattle.vcs_machine.specs.Machine.{after}
use Rattle.tas_green.specs.Zone.{where_true, is_passed, nearest}
use Rattle.tas_green.specs.Grid.{stride}
use Rattle.tas_green.specs.Green.{IsLawful}
use Rattle.tas_green.proofs.GridLemmas.{stride_rare}
use Rattle.tas_green.proofs.BoundLemmas.{nearest_close, room_after}
use Rattle.tas_green.proofs.MovingLemmas.{moved_same}
use Rattle.tas_green.proofs.GreenLemmas.{lawful_gained, shot_right}
use Rattle.tas_green.proofs.view.View.shot.Given.{Over}
use Rattle.tas_green.proofs.view.View.shot.Goals as goal

pub play_span-end-requires-clause-start : goal.play_span-end-requires-clause-start
play_span-end-requires-clause-start g c = rw (c.cart.ensures, c.inputs.ensures.inputs) c.kept_at.ensures.state

pub play_span-end-requires-clause-within : goal.play_span-end-requires-clause-within
play_span-end-requires-clause-within g c = rw c.inputs.ensures.inputs (omega (arith, c.if-k-len.false, c.len.ensures.len))

pub play_span-end-requires-clause-stride : goal.play_span-end-requires-clause-stride
play_span-end-requires-clause-stride g c = c.stride.ensures.positive

pub play_span-end-requires-clause-room : goal.play_span-end-requires-clause-room
play_span-end-requires-clause-room g c =
    let near : c.kept_at.result.frame ≡ nearest c.args.k c.self.inside.states.items = rw c.as_slice.ensures.value at c.kept_at.ensures.frame in
    let room = room_after c.self.inside.movie c.self.inside.states.items c.args.k c.kept_at.result.frame c.self.invariant.lawful.states (omega (arith, c.if-k-len.false, c.len.ensures.len)) (omega (arith, near)) in
    rw (c.stride.ensures.stride ∙ ap stride c.len-2.ensures.len) (omega (arith, room, c.self.invariant.room))

pub returns-clause-answer : goal.returns-clause-answer
returns-clause-answer g c = (omega (arith, c.if-k-len.false, c.len.ensures.len), rw (c.cart.ensures, c.inputs.ensures.inputs) at c.play_span-end.ensures.answer)

pub returns-clause-picture : goal.returns-clause-picture
returns-clause-picture g c = rw (c.cart.ensures, c.inputs.ensures.inputs) at (c.play_span-end.ensures.picture c.args.k refl)

pub returns-clause-kept : goal.returns-clause-kept
returns-clause-kept g c =
    let steps = c.stride.ensures.stride ∙ ap stride c.len-2.ensures.len in
    let near : c.kept_at.result.frame ≡ nearest c.args.k c.self.inside.states.items = rw c.as_slice.ensures.value at c.kept_at.ensures.frame in
    rw (← c.self.view_is) (record {
      left = c.self.inside.states.items;
      moved = moved_same c.self.inside.movie c.self.inside.states.items c.self.invariant.lawful.states;
      rise = omega (arith, c.play_span-end.ensures.meter, near, c.kept_at.ensures.bound, c.count.ensures, c.new-meter.ensures);
      kept = λ f. rw (steps, near, c.cart.ensures, c.inputs.ensures.inputs) at (c.play_span-end.ensures.states f);
    })

lawful : (g : Over) (c : goal.After-count g) → IsLawful c.self.inside.movie c.play_span-end.new.states.items
lawful g c =
    lawful_gained c.self.inside.movie c.self.inside.states.items c.play_span-end.new.states.items
    (λ f. where_true (is_passed c.stride.result c.kept_at.result.frame (c.args.k + 1) f) (Some (after c.cart.result.now (take f c.inputs.result.now)))) c.self.invariant.lawful.states c.play_span-end.ensures.rising
    c.play_span-end.ensures.states
    (λ f s e. shot_right c.self.inside.movie c.cart.result.now c.inputs.result.now c.stride.result c.kept_at.result.frame (c.args.k + 1) f s c.cart.ensures c.inputs.ensures.inputs (c.stride.ensures.stride ∙ ap stride c.len-2.ensures.len)
    (omega (arith, c.if-k-len.false, c.len.ensures.len)) e)

pub invariant_of-self : goal.invariant_of-self
invariant_of-self g c = record {
  lawful = record { states = lawful g c; near = c.self.invariant.lawful.near };
  few = c.self.invariant.few;
  room = omega (arith, c.play_span-end.ensures.capacity, c.self.invariant.room);
  near_room = c.self.invariant.near_room;
}

pub returns-clause-lawful : goal.returns-clause-lawful
returns-clause-lawful g c = record { states = lawful g c; near = c.self.invariant.lawful.near }

pub returns-clause-short : goal.returns-clause-short
returns-clause-short g c =
    let step = stride (length c.self.inside.movie.inputs) in
    let near : c.kept_at.result.frame ≡ nearest c.args.k c.self.inside.states.items = rw c.as_slice.ensures.value at c.kept_at.ensures.frame in
    rw (← c.self.view_is) (λ holds.
    let close = nearest_close c.self.inside.states.items c.args.k step (stride_rare (length c.self.inside.movie.inputs)).0 holds in
    omega (arith, close, c.play_span-end.ensures.meter, near, c.count.ensures, c.new-meter.ensures))

pub returns-clause-near : goal.returns-clause-near
returns-clause-near g c = grind (arith, common_steps)
