use Rattle.std.proofs.lemmas.Grind.{common_steps}
use Rattle.std.proofs.Common.{List, length, refl, sym, ap, subst, ◌∙◌, arith}
use Rattle.tas_desk.specs.Seats.{SeatContent}
use Rattle.tas_tool.specs.Inside.Holding.{AreFresh, AreNumbered, IsHeldIn}
use Rattle.tas_tool.proofs.HoldingLemmas.{whole_back, whole_lent, unmade_closed, desk_history, held_as}
use Rattle.tas_tool.proofs.desk_runs.hold_opened.Goals as goal

pub put_for_all-requires-clause-fresh : goal.put_for_all-requires-clause-fresh
put_for_all-requires-clause-fresh g c = subst (λ (l : List (SeatContent _)). AreFresh l) (sym c.as_mut_slice.ensures.value) c.requires.fresh

pub close-requires : goal.close-requires
close-requires g c =
    let back = whole_back c.put_for_all.new.seats _ _ _ (sym (c.put_for_all.ensures.count ∙ c.as_mut_slice.ensures.len)) refl in
    record { whole = whole_lent g.N.Ledger.parts c.args.seats.items c.as_mut_slice.result.now c.put_for_all.new.seats _ c.as_mut_slice.ensures.value c.requires.count.1 c.put_for_all.ensures.count c.put_for_all.ensures.numbers back }

pub returns-in-Err-clause-fault : goal.returns-in-Err-clause-fault
returns-in-Err-clause-fault g c =
    let back = whole_back c.put_for_all.new.seats _ _ _ (sym (c.put_for_all.ensures.count ∙ c.as_mut_slice.ensures.len)) refl in
    unmade_closed c.put_for_all.new.seats _ c.close.result.journal.items _ back c.in-Err.ensures.fault c.in-Err.ensures.others c.close.ensures.seats c.close.ensures.count

pub hold_made-requires-clause-all : goal.hold_made-requires-clause-all
hold_made-requires-clause-all g c κs within =
    let back = whole_back c.put_for_all.new.seats _ _ _ (sym (c.put_for_all.ensures.count ∙ c.as_mut_slice.ensures.len)) refl in
    (ap (λ l. length l) back ∙ c.put_for_all.ensures.count ∙ ap (λ l. length l) c.as_mut_slice.ensures.value ∙ c.requires.count.1, c.requires.count.0)

pub hold_made-requires-clause-numbers : goal.hold_made-requires-clause-numbers
hold_made-requires-clause-numbers g c κs within =
    let back = whole_back c.put_for_all.new.seats _ _ _ (sym (c.put_for_all.ensures.count ∙ c.as_mut_slice.ensures.len)) refl in
    subst (λ (l : List (SeatContent _)). AreNumbered l) (sym back) c.put_for_all.ensures.numbers

pub returns-clause-history : goal.returns-clause-history
returns-clause-history g c =
    let back = whole_back c.put_for_all.new.seats _ _ _ (sym (c.put_for_all.ensures.count ∙ c.as_mut_slice.ensures.len)) refl in
    desk_history g.D.Door.facts c.args.movie c.args.doors.now.items c.hold_made.new.doors.items c.put_for_all.new.seats _ _
    (c.put_for_all.ensures.count ∙ ap (λ l. length l) c.as_mut_slice.ensures.value ∙ c.requires.count.1 ∙ sym c.requires.count.0) c.in_default.ensures.movie c.put_for_all.ensures.numbers c.put_for_all.ensures.others c.in_default.ensures.zones
    (held_as (λ p q start e. IsHeldIn g.D.Door.facts _ p q start e) c.args.doors.now.items _ c.hold_made.new.doors.items c.put_for_all.new.seats _ _ _ refl back c.hold_made.ensures.history)

pub returns-in-Err-clause-unopened : goal.returns-in-Err-clause-unopened
returns-in-Err-clause-unopened g c = grind (arith, common_steps)

pub returns-clause-movie : goal.returns-clause-movie
returns-clause-movie g c = grind (arith, common_steps)

pub hold_made-requires-clause-ends : goal.hold_made-requires-clause-ends
hold_made-requires-clause-ends g c = grind (arith, common_steps)

pub hold_made-requires-clause-doors : goal.hold_made-requires-clause-doors
hold_made-requires-clause-doors g c = grind (arith, common_steps)

pub hold_made-requires-clause-callers : goal.hold_made-requires-clause-callers
hold_made-requires-clause-callers g c = grind (arith, common_steps)

pub hold_made-requires-clause-seats : goal.hold_made-requires-clause-seats
hold_made-requires-clause-seats g c = grind (arith, common_steps)
