use Rattle.std.proofs.Common.{arith}
use Rattle.std.proofs.lemmas.Grind.{common_steps}
use Rattle.std.proofs.lemmas.Result.{err_from_is_err_and}
use Rattle.tas_published.specs.Strokes.{edits_of}
use Rattle.tas_session.proofs.StepLemmas.{never_memory}
use Rattle.tas_session.proofs.session.Session.commit.Goals as goal

pub returns-in_err-check_commit-clause-memory : goal.returns-in_err-check_commit-clause-memory
returns-in_err-check_commit-clause-memory g c =
    let p = err_from_is_err_and c.from_residual.result c.from_residual.ensures.1 in
    rw (p.1, p.2)
    (λ e. absurd (never_memory c.args.self.now.journal c.args.self.now.movie c.args.seat c.args.made c.args.at (edits_of c.args.stroke) c.in_err-check_commit.field-0.0 c.in_err-check_commit.ensures.refusal e))

pub returns-in-Ok-clause-receipt : goal.returns-in-Ok-clause-receipt
returns-in-Ok-clause-receipt g c = grind (arith, common_steps)
