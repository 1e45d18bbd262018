use Rattle.std.proofs.lemmas.Grind.{common_steps}
use Rattle.std.proofs.Common.{◌≡◌, ℕ, ◌+◌, List, length, refl, sym, ap, subst, ◌∙◌, arith}
use Rattle.tas_desk.specs.Seats.{SeatContent}
use Rattle.tas_tool.specs.Inside.Holding.{AreNumbered, IsNotedStart, IsOwnSeat}
use Rattle.tas_tool.proofs.HoldingLemmas.{whole_back}
use Rattle.tas_tool.proofs.NotedDeskLemmas.{blank_seen, callers_count, into_as, noted_desk, numbers_kept, room_as, start_kept}
use Rattle.tas_tool.proofs.noted_holding.hold_noted.Goals as goal

pub returns-clause-history : goal.returns-clause-history
returns-clause-history g c = λ movie has.
    let back = whole_back c.share_on-shared.new.seats _ _ _ (sym (c.share_on-shared.ensures.count ∙ c.as_mut_slice.ensures.len)) refl in
    let old : IsNotedStart movie c.args.seats.items = record { numbers = c.requires.numbers; others = c.requires.others; has = has; zones = c.requires.zones } in
    let lent = subst (λ (l : List (SeatContent _)). IsNotedStart movie l) (sym c.as_mut_slice.ensures.value) old in
    let start = start_kept movie c.as_mut_slice.result.now c.share_on-shared.new.seats c.share_on-shared.ensures.count c.share_on-shared.ensures.kept lent in
    noted_desk g.D.Door.facts g.J.JournalFile.kept c.args.journal.bytes movie c.args.doors.now.items _ c.share_on-shared.new.seats _ _ _
    (c.share_on-shared.ensures.count ∙ ap (λ l. length l) c.as_mut_slice.ensures.value ∙ sym c.requires.all.1) start
    (into_as g.D.Door.facts g.J.JournalFile.kept g.K.JournalName.head c.args.journal.bytes g.K.JournalName.first c.args.doors.now.items _ _ c.share_on-shared.new.seats _ _ _ _ c.requires.head c.requires.first.1
    (c.pair_up_noted.ensures.doors ∙ ap (λ v. v.items) c.replace.ensures.value) (c.pair_up_noted.ensures.seats ∙ back) c.hold_noted_callers.ensures.history)

pub share_on-shared-requires-clause-blank : goal.share_on-shared-requires-clause-blank
share_on-shared-requires-clause-blank g c d = blank_seen _ _ (rw c.as_mut_slice.ensures.value (c.requires.seen d)) c.requires.blank

pub pair_up_noted-requires-clause-same : goal.pair_up_noted-requires-clause-same
pair_up_noted-requires-clause-same g c =
    let back = whole_back c.share_on-shared.new.seats _ _ _ (sym (c.share_on-shared.ensures.count ∙ c.as_mut_slice.ensures.len)) refl in
    ap (λ l. length l) back ∙ c.share_on-shared.ensures.count ∙ ap (λ l. length l) c.as_mut_slice.ensures.value ∙ sym c.requires.all.1 ∙ sym (ap (λ v. length v.items) c.replace.ensures.value)

pub pair_up_noted-requires-clause-room : goal.pair_up_noted-requires-clause-room
pair_up_noted-requires-clause-room g c =
    let back = whole_back c.share_on-shared.new.seats _ _ _ (sym (c.share_on-shared.ensures.count ∙ c.as_mut_slice.ensures.len)) refl in
    room_as c.len.result _ c.in-Ok.room.callers (ap (λ l. length l) back ∙ c.share_on-shared.ensures.count ∙ c.as_mut_slice.ensures.len ∙ sym c.len.ensures) c.in-Ok.ensures.callers

pub hold_noted_callers-requires-clause-all : goal.hold_noted_callers-requires-clause-all
hold_noted_callers-requires-clause-all g c κs within =
    let back = whole_back c.share_on-shared.new.seats _ _ _ (sym (c.share_on-shared.ensures.count ∙ c.as_mut_slice.ensures.len)) refl in
    let count : length c.pair_up_noted.new.callers.items ≡ length c.args.seats.items =
    callers_count _ c.pair_up_noted.new.callers.items _ c.share_on-shared.new.seats _ c.pair_up_noted.ensures.seats back (c.share_on-shared.ensures.count ∙ ap (λ l. length l) c.as_mut_slice.ensures.value) in
    omega (arith, count, c.requires.all.0)

pub hold_noted_callers-requires-clause-numbers : goal.hold_noted_callers-requires-clause-numbers
hold_noted_callers-requires-clause-numbers g c κs within =
    let back = whole_back c.share_on-shared.new.seats _ _ _ (sym (c.share_on-shared.ensures.count ∙ c.as_mut_slice.ensures.len)) refl in
    let lent = subst (λ (l : List (SeatContent _)). AreNumbered l) (sym c.as_mut_slice.ensures.value) c.requires.numbers in
    subst (λ (l : List (SeatContent _)). AreNumbered l) (sym (c.pair_up_noted.ensures.seats ∙ back)) (numbers_kept c.as_mut_slice.result.now c.share_on-shared.new.seats c.share_on-shared.ensures.count c.share_on-shared.ensures.kept lent)

pub hold_noted_callers-requires-clause-own : goal.hold_noted_callers-requires-clause-own
hold_noted_callers-requires-clause-own g c κs within =
    let back = whole_back c.share_on-shared.new.seats _ _ _ (sym (c.share_on-shared.ensures.count ∙ c.as_mut_slice.ensures.len)) refl in
    let count : length c.pair_up_noted.new.callers.items ≡ length c.args.seats.items =
    callers_count _ c.pair_up_noted.new.callers.items _ c.share_on-shared.new.seats _ c.pair_up_noted.ensures.seats back (c.share_on-shared.ensures.count ∙ ap (λ l. length l) c.as_mut_slice.ensures.value) in
    subst (λ (n : ℕ). IsOwnSeat n g.K.JournalName.own) (sym count) c.requires.knows

pub hold_noted_callers-requires-clause-doors : goal.hold_noted_callers-requires-clause-doors
hold_noted_callers-requires-clause-doors g c κs within =
    let back = whole_back c.share_on-shared.new.seats _ _ _ (sym (c.share_on-shared.ensures.count ∙ c.as_mut_slice.ensures.len)) refl in
    let many : length c.pair_up_noted.new.callers.items ≡ c.len.result =
    callers_count _ c.pair_up_noted.new.callers.items _ c.share_on-shared.new.seats _ c.pair_up_noted.ensures.seats back (c.share_on-shared.ensures.count ∙ c.as_mut_slice.ensures.len ∙ sym c.len.ensures) in
    rw c.replace.ensures.after (room_as c.len.result _ c.in-Ok.room.doors many c.in-Ok.ensures.doors)

pub hold_noted_callers-requires-clause-seats : goal.hold_noted_callers-requires-clause-seats
hold_noted_callers-requires-clause-seats g c κs within =
    let back = whole_back c.share_on-shared.new.seats _ _ _ (sym (c.share_on-shared.ensures.count ∙ c.as_mut_slice.ensures.len)) refl in
    let many : length c.pair_up_noted.new.callers.items ≡ c.len.result =
    callers_count _ c.pair_up_noted.new.callers.items _ c.share_on-shared.new.seats _ c.pair_up_noted.ensures.seats back (c.share_on-shared.ensures.count ∙ c.as_mut_slice.ensures.len ∙ sym c.len.ensures) in
    room_as (c.len.result + 1) _ c.in-Ok.room.back.seats (ap (λ (n : ℕ). n + 1) many) c.in-Ok.ensures.seats

pub hold_noted_callers-requires-clause-ends : goal.hold_noted_callers-requires-clause-ends
hold_noted_callers-requires-clause-ends g c κs within =
    let back = whole_back c.share_on-shared.new.seats _ _ _ (sym (c.share_on-shared.ensures.count ∙ c.as_mut_slice.ensures.len)) refl in
    let many : length c.pair_up_noted.new.callers.items ≡ c.len.result =
    callers_count _ c.pair_up_noted.new.callers.items _ c.share_on-shared.new.seats _ c.pair_up_noted.ensures.seats back (c.share_on-shared.ensures.count ∙ c.as_mut_slice.ensures.len ∙ sym c.len.ensures) in
    room_as c.len.result _ c.in-Ok.room.back.ends many c.in-Ok.ensures.ends

pub hold_noted_callers-requires-clause-receipts : goal.hold_noted_callers-requires-clause-receipts
hold_noted_callers-requires-clause-receipts g c κs within =
    let back = whole_back c.share_on-shared.new.seats _ _ _ (sym (c.share_on-shared.ensures.count ∙ c.as_mut_slice.ensures.len)) refl in
    let many : length c.pair_up_noted.new.callers.items ≡ c.len.result =
    callers_count _ c.pair_up_noted.new.callers.items _ c.share_on-shared.new.seats _ c.pair_up_noted.ensures.seats back (c.share_on-shared.ensures.count ∙ c.as_mut_slice.ensures.len ∙ sym c.len.ensures) in
    room_as c.len.result _ c.in-Ok.room.back.receipts many c.in-Ok.ensures.receipts

pub share_on-shared-requires-clause-some : goal.share_on-shared-requires-clause-some
share_on-shared-requires-clause-some g c = grind (arith, common_steps)
