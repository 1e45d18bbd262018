use Rattle.std.proofs.Common.{◌≡◌, ◌≤◌, map, take}
use Rattle.std.specs.Prelude.{count_by}
use Rattle.tas_verify.specs.Lines.{end_of, is_same}
use Rattle.tas_verify.proofs.lines.count_same.Given as goal

abbrev pub invariant-loop-one : goal.invariant-loop-one
invariant-loop-one l = record {
  count : l.count ≡ count_by (λ end. is_same end.outcome) (map end_of (take l.one-index l.verified));
  most : l.count ≤ l.one-index;
}
