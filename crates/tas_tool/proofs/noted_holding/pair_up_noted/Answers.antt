use Rattle.std.proofs.lemmas.Grind.{common_steps}
use Rattle.std.proofs.Common.{length, inl, inr, sym, ap, ◌∙◌, arith}
use Rattle.tas_tool.proofs.HoldingLemmas.{none_left, none_moved, one_moved}
use Rattle.tas_tool.proofs.noted_holding.pair_up_noted.Goals as goal

pub loop-seat-init : goal.loop-seat-init
loop-seat-init g c =
    let zip = c.into_iter-seat-iterator.ensures.into_iter_gives in
    let given = c.into_iter.ensures in
    let first = ap (λ z. z.a) zip ∙ c.zip-seat-items.ensures.first in
    let second = ap (λ z. z.b.rest.items) zip ∙ c.zip-seat-items.ensures.second.0 in
    let none = sym c.args.callers.now.ok.0 ∙ c.requires.room.0 in
    let firsts = ap (λ i. i.rest.items) first ∙ given.rest in record {
      seats = none_moved _ c.args.callers.now.items _ c.args.seats.items none firsts;
      doors = none_moved _ c.args.callers.now.items _ c.args.doors.items none second;
      same = ap (λ l. length l) firsts ∙ c.requires.same ∙ sym (ap (λ l. length l) second);
      len = c.into_iter-seat-iterator.result.a.rest.ok.0;
      room = omega (arith, c.requires.room.0, c.requires.room.1, ap (λ l. length l) firsts);
    }

pub loop-seat-preserved : goal.loop-seat-preserved
loop-seat-preserved g c =
    let l = c.loop-seat.invariant in
    let steps = c.in-Some.ensures.steps in
    let push = c.push_reserved.ensures in
    let more = ap (λ l. length l) steps.0.0 in record {
      seats = one_moved _ c.loop-seat.callers.items c.push_reserved.new.self.items _ _ _ c.args.seats.items push.items steps.0.0 l.seats;
      doors = one_moved _ c.loop-seat.callers.items c.push_reserved.new.self.items _ _ _ c.args.doors.items push.items steps.1.0 l.doors;
      same = omega (arith, l.same, more, ap (λ l. length l) steps.1.0);
      len = c.next.new.self.a.rest.ok.0;
      room = omega (arith, l.room, push.len, push.capacity, more);
    }

pub returns-clause-seats : goal.returns-clause-seats
returns-clause-seats g c =
    let l = c.loop-seat.invariant in
    let it = c.loop-seat.seat-iterator in
    none_left _ it.a.rest.items c.args.seats.items (elim c.in-None.ensures.steps [
      | inl w ↦ omega (arith, it.a.rest.ok.0, w.1.0)
      | inr w ↦ omega (arith, l.same, it.b.rest.ok.0, w.1.0)
    ]) l.seats

pub returns-clause-doors : goal.returns-clause-doors
returns-clause-doors g c =
    let l = c.loop-seat.invariant in
    let it = c.loop-seat.seat-iterator in
    none_left _ it.b.rest.items c.args.doors.items (elim c.in-None.ensures.steps [
      | inl w ↦ omega (arith, l.same, it.a.rest.ok.0, w.1.0)
      | inr w ↦ omega (arith, it.b.rest.ok.0, w.1.0)
    ]) l.doors

pub loop-seat-init-derived : goal.loop-seat-init-derived
loop-seat-init-derived g c = grind (arith, common_steps)

pub push_reserved-requires : goal.push_reserved-requires
push_reserved-requires g c = grind (arith, common_steps)
