use Rattle.std.proofs.Common.{◌≡◌, ◌∷◌, ◌++◌, take}
use Rattle.std.specs.Prelude.{codes}
use Rattle.std.specs.List.{flat_map}
use Rattle.tas_engines.specs.Names.{names_of}
use Rattle.tas_engines.proofs.ram_table.head_of.Given as goal

abbrev pub invariant-loop-k : goal.invariant-loop-k
invariant-loop-k g l = l.head.items ≡ codes "frames played" ++ flat_map (λ n. 44 ∷ n.0) (names_of (take l.k l.names))
