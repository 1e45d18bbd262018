use Rattle.std.proofs.Common.{◌≡◌, take}
use Rattle.std.specs.List.{flat_map}
use Rattle.tas_engines.specs.Scripts.{change_line}
use Rattle.tas_engines.proofs.scripts.print_changes.Given as goal

abbrev pub invariant-loop-change : goal.invariant-loop-change
invariant-loop-change g l = l.bytes.items ≡ flat_map change_line (take l.change-index l.changes)
