use Rattle.std.proofs.Common.{◌≡◌, ◌+◌, ◌*◌, ◌++◌, length, drop}
use Rattle.tas_search.specs.AnswerChanges.{replacing}
use Rattle.tas_search.proofs.changes.push_choices.Given as goal

abbrev pub invariant-loop-number : goal.invariant-loop-number
invariant-loop-number g l = record {
  pushed : l.changes.items ++ replacing l.at l.space.choices l.hold (drop l.number-index l.numbers) ≡ l.fn.changes.items ++ replacing l.fn.from l.space.choices l.hold l.numbers;
  fits : l.at + length (drop l.number-index l.numbers) * l.hold ≡ l.fn.from + length l.numbers * l.hold;
}
