use Rattle.std.proofs.Common.{◌≡◌}
use Rattle.tas_program.proofs.saving.create_beside.Given as goal

abbrev pub invariant-loop-number : goal.invariant-loop-number
invariant-loop-number g l = g.D.Directory.files l.directory ≡ g.D.Directory.files l.initial.directory
