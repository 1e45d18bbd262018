use Rattle.std.proofs.lemmas.Grind.{common_steps}
use Rattle.std.proofs.Common.{◌<◌, length, arith}
use Rattle.tas_published.specs.Strokes.{edits_of}
use Rattle.tas_session.proofs.StepLemmas.{on_any_error}
use Rattle.tas_session.proofs.session.Session.accept_stroke.Goals as goal

pub returns-in-One-clause-some : goal.returns-in-One-clause-some
returns-in-One-clause-some g c =
    let some : 0 < length (edits_of c.args.stroke) = rw c.in-One.is (omega arith) in
    on_any_error (0 < length (edits_of c.args.stroke)) _ some

pub returns-in-Two-clause-some : goal.returns-in-Two-clause-some
returns-in-Two-clause-some g c =
    let some : 0 < length (edits_of c.args.stroke) = rw c.in-Two.is (omega arith) in
    on_any_error (0 < length (edits_of c.args.stroke)) _ some

pub overflow_add-last : goal.overflow_add-last
overflow_add-last g c = grind (arith, common_steps)

pub returns-in-Nothing-clause-done : goal.returns-in-Nothing-clause-done
returns-in-Nothing-clause-done g c = grind (arith, common_steps)

pub returns-in-Two-clause-done : goal.returns-in-Two-clause-done
returns-in-Two-clause-done g c = grind (arith, common_steps)
