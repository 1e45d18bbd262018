use Rattle.std.proofs.Common.{◌≡◌, drop}
use Rattle.tas_engines.specs.Names.{named, names_of}
use Rattle.tas_engines.proofs.name.named.Given as goal

abbrev pub invariant-loop-k : goal.invariant-loop-k
invariant-loop-k g l = named (names_of (drop l.k l.names)) l.bytes ≡ named (names_of l.names) l.bytes
