use Rattle.std.proofs.Common.{◌≡◌, ◌≤◌, ◌+◌, ◌++◌, length, map, vec_len, vec_capacity}
use Rattle.std.specs.Vec.Iter.{into_iter_items, into_iter_len}
use Rattle.tas_tool.proofs.noted_holding.separate_noted.Given as goal

abbrev pub invariant-loop-caller : goal.invariant-loop-caller
invariant-loop-caller g l = record {
  rest : l.yielded ++ into_iter_items l.caller-iterator ≡ l.fn.callers.items;
  len : into_iter_len l.caller-iterator ≡ length (into_iter_items l.caller-iterator);
  doors : l.doors.items ≡ map (λ c. c.door) l.yielded;
  seats : l.back.seats.items ≡ map (λ c. c.seat) l.yielded;
  ends : l.back.ends.items ≡ map (λ c. c.end) l.yielded;
  receipts : l.back.receipts.items ≡ map (λ c. c.receipt) l.yielded;
  doors_len : vec_len l.doors ≡ length l.yielded;
  seats_len : vec_len l.back.seats ≡ length l.yielded;
  ends_len : vec_len l.back.ends ≡ length l.yielded;
  receipts_len : vec_len l.back.receipts ≡ length l.yielded;
  doors_room : length l.fn.callers.items ≤ vec_capacity l.doors;
  seats_room : length l.fn.callers.items + 1 ≤ vec_capacity l.back.seats;
  ends_room : length l.fn.callers.items ≤ vec_capacity l.back.ends;
  receipts_room : length l.fn.callers.items ≤ vec_capacity l.back.receipts;
}
