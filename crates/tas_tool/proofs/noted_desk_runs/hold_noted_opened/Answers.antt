use Rattle.std.proofs.Common.{List, length, refl, sym, ap, subst, ◌∙◌}
use Rattle.tas_desk.specs.Seats.{SeatContent}
use Rattle.tas_tool.specs.Inside.Holding.{AreFresh, IsNotedStart}
use Rattle.tas_tool.proofs.HoldingLemmas.{whole_back, whole_lent, unmade_closed}
use Rattle.tas_tool.proofs.NotedDeskLemmas.{unmade_noted}
use Rattle.tas_tool.proofs.noted_desk_runs.hold_noted_opened.Goals as goal

pub put_for_all-requires-clause-fresh : goal.put_for_all-requires-clause-fresh
put_for_all-requires-clause-fresh g c = subst (λ (l : List (SeatContent _)). AreFresh l) (sym c.as_mut_slice.ensures.value) c.requires.fresh

pub close-requires : goal.close-requires
close-requires g c =
    let back = whole_back c.put_for_all.new.seats _ _ _ (sym (c.put_for_all.ensures.count ∙ c.as_mut_slice.ensures.len)) refl in
    record { whole = whole_lent g.N.Ledger.parts c.args.seats.items c.as_mut_slice.result.now c.put_for_all.new.seats _ c.as_mut_slice.ensures.value c.requires.count.1 c.put_for_all.ensures.count c.put_for_all.ensures.numbers back }

pub returns-in-Err-clause-fault : goal.returns-in-Err-clause-fault
returns-in-Err-clause-fault g c =
    let back = whole_back c.put_for_all.new.seats _ _ _ (sym (c.put_for_all.ensures.count ∙ c.as_mut_slice.ensures.len)) refl in
    unmade_noted c.args.movie (g.J.Write.contents c.args.file) _ _ (unmade_closed c.put_for_all.new.seats _ c.close.result.journal.items _ back c.in-Err.ensures.fault c.in-Err.ensures.others c.close.ensures.seats c.close.ensures.count) c.run_fault.ensures

pub hold_begun-requires-clause-start : goal.hold_begun-requires-clause-start
hold_begun-requires-clause-start g c κs within =
    let back = whole_back c.put_for_all.new.seats _ _ _ (sym (c.put_for_all.ensures.count ∙ c.as_mut_slice.ensures.len)) refl in
    subst (λ (l : List (SeatContent _)). IsNotedStart c.args.movie l) (sym back)
    (record { numbers = c.put_for_all.ensures.numbers; others = c.put_for_all.ensures.others; has = c.in_default.ensures.movie; zones = c.in_default.ensures.zones })

pub hold_begun-requires-clause-count : goal.hold_begun-requires-clause-count
hold_begun-requires-clause-count g c κs within =
    let back = whole_back c.put_for_all.new.seats _ _ _ (sym (c.put_for_all.ensures.count ∙ c.as_mut_slice.ensures.len)) refl in
    (c.requires.count.0, ap (λ l. length l) back ∙ c.put_for_all.ensures.count ∙ ap (λ l. length l) c.as_mut_slice.ensures.value ∙ c.requires.count.1)
