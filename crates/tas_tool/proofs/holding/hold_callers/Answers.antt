use Rattle.std.proofs.Common.{List, map, refl, sym, ap, ◌∙◌}
use Rattle.tas_seat.specs.declared.callers.Caller.{Caller}
use Rattle.tas_tool.proofs.HoldingLemmas.{whole_back, room_lent, whole_made, holds_made}
use Rattle.tas_tool.proofs.holding.hold_callers.Goals as goal

pub close-closed-requires : goal.close-closed-requires
close-closed-requires g c =
    let new = c.converse_all.new.callers in
    let back = whole_back new _ _ _ (sym (c.converse_all.auto.callers ∙ c.as_mut_slice.ensures.len)) refl in
    record {
      whole = whole_made g.N.Ledger.parts g.D.Door.facts (λ (x : Caller _ _ _). x.door) (λ (x : Caller _ _ _). x.seat) (λ (x : Caller _ _ _). x.end) c.args.callers.items c.as_mut_slice.result.now new c.separate.new.back.seats.items
          c.as_mut_slice.ensures.value c.converse_all.auto.callers c.requires.all c.converse_all.ensures c.requires.numbers (c.separate.ensures.seats ∙ ap (λ (l : List (Caller _ _ _)). map (λ (x : Caller _ _ _). x.seat) l) back);
    }

pub returns-clause-history : goal.returns-clause-history
returns-clause-history g c =
    let new = c.converse_all.new.callers in
    let back = whole_back new _ _ _ (sym (c.converse_all.auto.callers ∙ c.as_mut_slice.ensures.len)) refl in
    let end = c.close-closed.ensures in
    let parts = c.separate.ensures in
    holds_made g.N.Ledger.parts g.D.Door.facts (λ (x : Caller _ _ _). x.door) (λ (x : Caller _ _ _). x.seat) (λ (x : Caller _ _ _). x.end) c.args.callers.items c.as_mut_slice.result.now new c.separate.new.doors.items c.separate.new.back.seats.items
    c.separate.new.back.ends.items c.close-closed.result.journal.items c.as_mut_slice.ensures.value c.converse_all.auto.callers c.requires.all c.converse_all.ensures c.requires.numbers
    (parts.doors ∙ ap (λ (l : List (Caller _ _ _)). map (λ (x : Caller _ _ _). x.door) l) back) (parts.seats ∙ ap (λ (l : List (Caller _ _ _)). map (λ (x : Caller _ _ _). x.seat) l) back)
    (parts.ends ∙ ap (λ (l : List (Caller _ _ _)). map (λ (x : Caller _ _ _). x.end) l) back) end.legal end.seats end.count

pub separate-requires-clause-doors : goal.separate-requires-clause-doors
separate-requires-clause-doors g c κs within =
    let new = c.converse_all.new.callers in
    let back = whole_back new _ _ _ (sym (c.converse_all.auto.callers ∙ c.as_mut_slice.ensures.len)) refl in
    room_lent g.N.Ledger.parts c.args.callers.items c.as_mut_slice.result.now new _ c.args.doors.now c.as_mut_slice.ensures.value c.converse_all.auto.callers c.requires.all back c.requires.doors

pub separate-requires-clause-seats : goal.separate-requires-clause-seats
separate-requires-clause-seats g c κs within =
    let new = c.converse_all.new.callers in
    let back = whole_back new _ _ _ (sym (c.converse_all.auto.callers ∙ c.as_mut_slice.ensures.len)) refl in
    room_lent g.N.Ledger.parts c.args.callers.items c.as_mut_slice.result.now new _ c.args.back.seats c.as_mut_slice.ensures.value c.converse_all.auto.callers c.requires.all back c.requires.seats

pub separate-requires-clause-ends : goal.separate-requires-clause-ends
separate-requires-clause-ends g c κs within =
    let new = c.converse_all.new.callers in
    let back = whole_back new _ _ _ (sym (c.converse_all.auto.callers ∙ c.as_mut_slice.ensures.len)) refl in
    room_lent g.N.Ledger.parts c.args.callers.items c.as_mut_slice.result.now new _ c.args.back.ends c.as_mut_slice.ensures.value c.converse_all.auto.callers c.requires.all back c.requires.ends
