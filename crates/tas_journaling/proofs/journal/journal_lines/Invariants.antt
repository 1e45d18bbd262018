use Rattle.std.proofs.Common.{◌≡◌, ◌+◌, take}
use Rattle.tas_journal.specs.Text.{entry_lines}
use Rattle.tas_journaling.specs.Journals.{journaled}
use Rattle.tas_journaling.proofs.journal.journal_lines.Given as goal

abbrev pub invariant-loop-entry : goal.invariant-loop-entry
invariant-loop-entry g l = record {
  number : l.number ≡ l.first + l.entry-index;
  text : l.text.items ≡ entry_lines l.first (journaled (take l.entry-index l.entries));
}
