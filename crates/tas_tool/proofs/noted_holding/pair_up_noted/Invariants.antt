use Rattle.std.proofs.Common.{◌≡◌, ◌≤◌, ◌+◌, ◌++◌, length, map, vec_len, vec_capacity}
use Rattle.std.specs.Iterator.Adapters.{zip_first, zip_second}
use Rattle.std.specs.Vec.Iter.{into_iter_items, into_iter_len}
use Rattle.tas_tool.proofs.noted_holding.pair_up_noted.Given as goal

abbrev pub invariant-loop-seat : goal.invariant-loop-seat
invariant-loop-seat g l =
    let firsts = zip_first l.seat-iterator in
    let seconds = zip_second l.seat-iterator in record {
      seats : map (λ c. c.seat) l.callers.items ++ into_iter_items firsts ≡ l.fn.seats.items;
      doors : map (λ c. c.door) l.callers.items ++ into_iter_items seconds ≡ l.fn.doors.items;
      same : length (into_iter_items firsts) ≡ length (into_iter_items seconds);
      len : into_iter_len firsts ≡ length (into_iter_items firsts);
      room : vec_len l.callers + length (into_iter_items firsts) ≤ vec_capacity l.callers;
    }
