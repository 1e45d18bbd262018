use Rattle.std.proofs.Common.{◌≡◌, ℕ, ◌<◌, true, false, length}
use Rattle.std.specs.Prelude.{slice_index_or}
use Rattle.tas_search.specs.declared.arrival.Arrival.{Arrival}
use Rattle.tas_search.specs.Goal.{value_in}
use Rattle.tas_search.specs.Inside.Extremes.{beats}
use Rattle.tas_search.proofs.extremes.best_place.Given as goal

-- the best of those so far
abbrev pub invariant-loop-i : goal.invariant-loop-i
invariant-loop-i g l = record {
  within : l.best < length l.layer;
  value : (d : Arrival) → l.value ≡ value_in (g.M.Measure.value l.measure) (slice_index_or l.layer l.best d).state;
  best : (k : ℕ) (d : Arrival) → k < l.i → beats l.aim (value_in (g.M.Measure.value l.measure) (slice_index_or l.layer k d).state) l.value ≡ false;
  first : (k : ℕ) (d : Arrival) → k < l.best → beats l.aim l.value (value_in (g.M.Measure.value l.measure) (slice_index_or l.layer k d).state) ≡ true;
}
