use Rattle.std.proofs.Common.{◌≡◌, ◌+◌, take}
use Rattle.tas_seat.specs.HistoryText.{entry_lines}
use Rattle.tas_seat.proofs.histories.entry_lines.Given as goal

abbrev pub invariant-loop-entry : goal.invariant-loop-entry
invariant-loop-entry g l = record {
  number : l.number ≡ l.first + l.entry-index;
  text : l.text.items ≡ entry_lines l.first (take l.entry-index l.entries);
}
