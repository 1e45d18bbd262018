use Rattle.std.proofs.Common.{◌≡◌, [], vec_len, vec_items}
use Rattle.std.specs.List.{All}
use Rattle.tas_film.proofs.runs.ExportPlan.runs.Given as goal

abbrev pub invariant-loop-number : goal.invariant-loop-number
invariant-loop-number g l = record {
  count : vec_len l.runs ≡ l.number;
  empty : All (λ run. run.pixmaps ≡ []) (vec_items l.runs);
}
