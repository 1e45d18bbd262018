use Rattle.std.proofs.Common.{◌≡◌, ◌+◌, ◌*◌, ◌≤◌, [], ◌∷◌, ◌++◌, length, drop}
use Rattle.tas_engines.specs.Names.{names_of}
use Rattle.tas_engines.specs.Ram.{named_values}
use Rattle.tas_engines.proofs.ram.put_values.Given as goal

abbrev pub invariant-loop-left : goal.invariant-loop-left
invariant-loop-left g l = record {
  long : length l.buffer ≡ 21 + 4 * length l.names;
  left : l.left ≤ length l.names;
  low : 20 + 4 * l.left ≤ l.at;
  high : l.at ≤ length l.buffer;
  values : drop l.at l.buffer ≡ named_values (names_of (drop l.left l.names)) l.ram ++ (10 ∷ []);
}

abbrev pub decreases-loop-left : goal.decreases-loop-left
decreases-loop-left g l = l.left
