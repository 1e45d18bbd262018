use Rattle.std.proofs.Common.{◌≡◌, ◌≤◌, ◌<◌, ℕ, slice_index_or}
use mathlib.Core.List.{IsPrefix}
use Rattle.tas_desk.specs.Seats.{SeatContent, KeepsZone}
use Rattle.tas_tool.proofs.holding.meet_all.Given as goal

abbrev pub invariant-loop-other : goal.invariant-loop-other
invariant-loop-other g l = record {
  first : KeepsZone l.fn.first l.first;
  done : (k : ℕ) (d : SeatContent _) → k < l.other-index → KeepsZone (slice_index_or l.fn.others k d) (slice_index_or l.others k d);
  met : (k : ℕ) (d : SeatContent _) → k < l.other-index → IsPrefix l.fn.first.front (slice_index_or l.others k d).front;
  rest : (k : ℕ) (d : SeatContent _) → l.other-index ≤ k → slice_index_or l.others k d ≡ slice_index_or l.fn.others k d;
}
