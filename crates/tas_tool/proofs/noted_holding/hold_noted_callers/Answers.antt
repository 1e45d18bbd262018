use Rattle.std.proofs.Common.{List, map, refl, sym, ap, ◌∙◌, length, arith}
use Rattle.tas_journaling.specs.declared.callers.NotedCaller.{NotedCaller}
use Rattle.tas_tool.proofs.HoldingLemmas.{whole_back, room_lent, room_lent_more}
use Rattle.tas_tool.proofs.NotedDeskLemmas.{backs_noted, notes_into, room_for_own, whole_with}
use Rattle.tas_tool.proofs.noted_holding.hold_noted_callers.Goals as goal

pub close-closed-requires : goal.close-closed-requires
close-closed-requires g c =
    let new = c.converse_all_noted.new.callers in
    let back = whole_back new _ _ _ (sym (c.converse_all_noted.auto.callers ∙ c.as_mut_slice.ensures.len)) refl in
    let backs = backs_noted g.D.Door.facts g.K.JournalName.first (λ (x : NotedCaller _ _ _ _). x.door) (λ (x : NotedCaller _ _ _ _). x.seat) (λ (x : NotedCaller _ _ _ _). x.end) (λ (x : NotedCaller _ _ _ _). x.receipt) c.args.callers.items c.as_mut_slice.result.now new
    c.separate_noted.new.back.seats.items c.as_mut_slice.ensures.value c.converse_all_noted.auto.callers c.converse_all_noted.ensures c.requires.numbers (c.separate_noted.ensures.seats ∙ ap (λ (l : List (NotedCaller _ _ _ _)). map (λ (x : NotedCaller _ _ _ _). x.seat) l) back) in
    let own = c.requires.own _ _ c.close-journal.ensures.own in
    record { whole = rw c.push_reserved.ensures.items (whole_with g.N.Ledger.parts c.separate_noted.new.back.seats.items c.close-journal.result.1 backs.0 (own.0 ∙ sym backs.1) (omega (arith, backs.1, c.requires.all))) }

pub returns-clause-history : goal.returns-clause-history
returns-clause-history g c =
    let new = c.converse_all_noted.new.callers in
    let back = whole_back new _ _ _ (sym (c.converse_all_noted.auto.callers ∙ c.as_mut_slice.ensures.len)) refl in
    let end = c.close-closed.ensures in
    let parts = c.separate_noted.ensures in
    notes_into g.N.Ledger.parts g.D.Door.facts g.J.JournalFile.kept g.K.JournalName.head g.K.JournalName.first (λ (x : NotedCaller _ _ _ _). x.door) (λ (x : NotedCaller _ _ _ _). x.seat) (λ (x : NotedCaller _ _ _ _). x.end) (λ (x : NotedCaller _ _ _ _). x.receipt) c.args.callers.items
    c.as_mut_slice.result.now new c.separate_noted.new.doors.items c.separate_noted.new.back.seats.items c.push_reserved.new.self.items c.separate_noted.new.back.ends.items c.separate_noted.new.back.receipts.items c.close-journal.result.1 c.close-journal.result.0 _ c.close-closed.result.journal.items
    c.as_mut_slice.ensures.value c.converse_all_noted.auto.callers c.requires.all c.converse_all_noted.ensures c.requires.numbers (parts.doors ∙ ap (λ (l : List (NotedCaller _ _ _ _)). map (λ (x : NotedCaller _ _ _ _). x.door) l) back)
    (parts.seats ∙ ap (λ (l : List (NotedCaller _ _ _ _)). map (λ (x : NotedCaller _ _ _ _). x.seat) l) back) (parts.ends ∙ ap (λ (l : List (NotedCaller _ _ _ _)). map (λ (x : NotedCaller _ _ _ _). x.end) l) back)
    (parts.receipts ∙ ap (λ (l : List (NotedCaller _ _ _ _)). map (λ (x : NotedCaller _ _ _ _). x.receipt) l) back) c.push_reserved.ensures.items (c.requires.own _ _ c.close-journal.ensures.own) c.close-journal.ensures.receipts c.close-journal.ensures.journal c.close-journal.ensures.synced c.into_file.ensures.bytes end.legal
    end.seats end.count

pub separate_noted-requires-clause-doors : goal.separate_noted-requires-clause-doors
separate_noted-requires-clause-doors g c =
    let new = c.converse_all_noted.new.callers in
    let back = whole_back new _ _ _ (sym (c.converse_all_noted.auto.callers ∙ c.as_mut_slice.ensures.len)) refl in
    room_lent (length c.args.callers.items) c.args.callers.items c.as_mut_slice.result.now new _ c.args.doors.now c.as_mut_slice.ensures.value c.converse_all_noted.auto.callers refl back c.requires.doors

pub separate_noted-requires-clause-ends : goal.separate_noted-requires-clause-ends
separate_noted-requires-clause-ends g c =
    let new = c.converse_all_noted.new.callers in
    let back = whole_back new _ _ _ (sym (c.converse_all_noted.auto.callers ∙ c.as_mut_slice.ensures.len)) refl in
    room_lent (length c.args.callers.items) c.args.callers.items c.as_mut_slice.result.now new _ c.args.back.ends c.as_mut_slice.ensures.value c.converse_all_noted.auto.callers refl back c.requires.ends

pub separate_noted-requires-clause-receipts : goal.separate_noted-requires-clause-receipts
separate_noted-requires-clause-receipts g c =
    let new = c.converse_all_noted.new.callers in
    let back = whole_back new _ _ _ (sym (c.converse_all_noted.auto.callers ∙ c.as_mut_slice.ensures.len)) refl in
    room_lent (length c.args.callers.items) c.args.callers.items c.as_mut_slice.result.now new _ c.args.back.receipts c.as_mut_slice.ensures.value c.converse_all_noted.auto.callers refl back c.requires.receipts

pub separate_noted-requires-clause-seats : goal.separate_noted-requires-clause-seats
separate_noted-requires-clause-seats g c =
    let new = c.converse_all_noted.new.callers in
    let back = whole_back new _ _ _ (sym (c.converse_all_noted.auto.callers ∙ c.as_mut_slice.ensures.len)) refl in
    room_lent_more (length c.args.callers.items) c.args.callers.items c.as_mut_slice.result.now new _ c.args.back.seats c.as_mut_slice.ensures.value c.converse_all_noted.auto.callers refl back c.requires.seats

pub push_reserved-requires : goal.push_reserved-requires
push_reserved-requires g c =
    let seats = c.separate_noted.new.back.seats in
    room_for_own _ _ seats.items _ _ c.separate_noted.ensures.seats seats.ok.0 c.separate_noted.ensures.room
