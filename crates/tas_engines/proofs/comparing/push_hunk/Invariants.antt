use Rattle.tas_engines.specs.Hunks.{IsGapOf, GoesOn}
use Rattle.tas_engines.proofs.comparing.push_hunk.Given as goal

abbrev pub invariant-loop-i : goal.invariant-loop-i
invariant-loop-i g l = record {
  is_gap : IsGapOf l.old l.new l.gap;
  goes : GoesOn l.old l.new l.fn.hunk l.gap l.fn.changes.items l.changes.items;
}
