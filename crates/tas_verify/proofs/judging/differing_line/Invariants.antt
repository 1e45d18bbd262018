use Rattle.std.proofs.Common.{◌≡◌, ◌≤◌, ◌+◌, take}
use Rattle.tas_verify.specs.Rows.{newlines}
use Rattle.tas_verify.proofs.judging.differing_line.Given as goal

abbrev pub invariant-loop-at : goal.invariant-loop-at
invariant-loop-at l = record {
  same : take l.at l.now ≡ take l.at l.stored;
  place : l.line ≡ newlines (take l.at l.now) + 1;
  most : l.line ≤ l.at + 1;
}
