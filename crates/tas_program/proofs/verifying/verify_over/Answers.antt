use Rattle.std.specs.Prelude.{refl}
use Rattle.tas_program.proofs.verifying.verify_over.Goals as goal
use Rattle.tas_program.proofs.verifying.verify_over.Goals.{then-has_progress, else-has_progress}

-- src/verifying.rt:163:1
pub returns : goal.returns
returns g c = elim c.if-has_progress.branch [
  | then-has_progress w ↦ rw w.input-is (rw w.output-is (w.verify_run-end.result, rw c.verified_end.ensures (rw w.end-is refl), w.verify_run-end.ensures))
  | else-has_progress w ↦ rw w.input-is (rw w.output-is (w.verify_run-end-else-has_progress.result, rw c.verified_end.ensures (rw w.end-is refl), w.verify_run-end-else-has_progress.ensures))
]
