use Rattle.std.proofs.Common.{All, string_bytes}
use Rattle.tas_program.specs.Verifying.{IsIn}
use Rattle.tas_program.proofs.verifying.paths_in.Given as goal

abbrev pub invariant-loop-name : goal.invariant-loop-name
invariant-loop-name g l = All (λ path. IsIn l.dir (string_bytes path)) l.paths.items
