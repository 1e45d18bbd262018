use Rattle.std.proofs.Common.{◌≡◌, take, vec_len, vec_capacity}
use Rattle.tas_green.proofs.zone.copied.Given as goal

abbrev pub invariant-loop-kept : goal.invariant-loop-kept
invariant-loop-kept g l = record {
  items : l.list.items ≡ take l.kept-index l.states;
  count : vec_len l.list ≡ l.kept-index;
  room : vec_capacity l.list ≡ l.room;
}
