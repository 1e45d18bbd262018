use Rattle.std.proofs.Common.{◌≡◌, [], ◌++◌, length}
use Rattle.std.specs.List.{flat_map}
use Rattle.tas_engines.specs.Names.{names_of}
use Rattle.tas_engines.specs.NamesFile.{name_line, AreNew}
use Rattle.tas_engines.proofs.names.read_names.Given as goal

abbrev pub invariant-loop-rest : goal.invariant-loop-rest
invariant-loop-rest g l = record {
  read : l.text ≡ flat_map name_line (names_of l.names.items) ++ l.rest;
  new : AreNew [] (names_of l.names.items);
}

abbrev pub decreases-loop-rest : goal.decreases-loop-rest
decreases-loop-rest g l = length l.rest
