use Rattle.std.proofs.lemmas.Grind.{common_steps}
use Rattle.std.proofs.lemmas.Bool.{eqb-true}
use Rattle.std.proofs.Common.{◌≡◌, length, sym, ◌∙◌, arith}
use Rattle.tas_journaling.proofs.NoteLemmas.{asked, entries_length, lacks_none, notes_all, notes_less}
use Rattle.tas_journaling.proofs.journal.Journal.note.Goals as goal

pub returns-then-is_empty-clause-done : goal.returns-then-is_empty-clause-done
returns-then-is_empty-clause-done g c =
    let none : length c.as_slice-entries.result.now ≡ 0 = eqb-true _ _ (sym c.is_empty.ensures ∙ c.if-is_empty.true) in
    lacks_none c.args.seat.now c.history.new.seat c.args.self.now 18446744073709551615 c.in-Ok.history.at c.as_slice-entries.result.now c.in-Ok.ensures.seat
    (asked c.args.self.now _ 18446744073709551615 c.history.new.seat.front c.in-Ok.history.entries.items _ c.self.view_is c.as_slice-entries.ensures.value c.in-Ok.ensures.entries) c.in-Ok.ensures.at (omega arith) none

pub note_entries-requires : goal.note_entries-requires
note_entries-requires g c = record {
  all = entries_length 18446744073709551615 c.args.self.now.upto c.in-Ok.history.at c.history.new.seat.front c.as_slice-entries.result.now
      (asked c.args.self.now _ 18446744073709551615 c.history.new.seat.front c.in-Ok.history.entries.items _ c.self.view_is c.as_slice-entries.ensures.value c.in-Ok.ensures.entries) c.in-Ok.ensures.at;
}

pub returns-in-Err-clause-fault : goal.returns-in-Err-clause-fault
returns-in-Err-clause-fault g c =
    notes_less c.args.seat.now c.history.new.seat c.args.self.now c.note_entries.new.self 18446744073709551615 c.in-Ok.history.at c.as_slice-entries.result.now c.in-Err.fault c.in-Ok.ensures.seat
    (asked c.args.self.now _ 18446744073709551615 c.history.new.seat.front c.in-Ok.history.entries.items _ c.self.view_is c.as_slice-entries.ensures.value c.in-Ok.ensures.entries) c.in-Ok.ensures.at c.in-Err.ensures.whole c.in-Err.ensures.first c.in-Err.ensures.kept
    c.in-Err.ensures.memory c.in-Err.ensures.named c.in-Err.ensures.cut

pub returns-clause-done : goal.returns-clause-done
returns-clause-done g c =
    notes_all c.args.seat.now c.history.new.seat c.args.self.now c.note_entries.new.self 18446744073709551615 c.in-Ok.history.at c.as_slice-entries.result.now c.in-Ok.ensures.seat
    (asked c.args.self.now _ 18446744073709551615 c.history.new.seat.front c.in-Ok.history.entries.items _ c.self.view_is c.as_slice-entries.ensures.value c.in-Ok.ensures.entries) c.in-Ok.ensures.at c.in_default-note_entries.ensures.whole c.in_default-note_entries.ensures.first
    c.in_default-note_entries.ensures.upto c.in_default-note_entries.ensures.fault c.in_default-note_entries.ensures.done

pub returns-in-Some-clause-seat : goal.returns-in-Some-clause-seat
returns-in-Some-clause-seat g c = grind (arith, common_steps)
