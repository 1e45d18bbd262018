use Rattle.std.proofs.Common.{arith}
use Rattle.std.proofs.lemmas.Grind.{common_steps}
use Rattle.std.proofs.lemmas.Result.{err_from_is_err_and}
use Rattle.tas_seat.proofs.DraftLemmas.{version_answered, lost_version}
use Rattle.tas_seat.proofs.draft.Draft.answer_about_movie.Goals as goal

pub returns-in_ok-answer_states-in-States-clause-desk : goal.returns-in_ok-answer_states-in-States-clause-desk
returns-in_ok-answer_states-in-States-clause-desk g c = grind (arith, common_steps)

pub returns-in_ok-answer_movie-in-Movie-clause-desk : goal.returns-in_ok-answer_movie-in-Movie-clause-desk
returns-in_ok-answer_movie-in-Movie-clause-desk g c = grind (arith, common_steps)

pub returns-in_ok-answer_pictures-in-Pictures-clause-desk : goal.returns-in_ok-answer_pictures-in-Pictures-clause-desk
returns-in_ok-answer_pictures-in-Pictures-clause-desk g c = grind (arith, common_steps)

pub returns-in_ok-answer_retouch-in-Retouch-clause-desk : goal.returns-in_ok-answer_retouch-in-Retouch-clause-desk
returns-in_ok-answer_retouch-in-Retouch-clause-desk g c = grind (arith, common_steps)

pub returns-in_ok-answer_picture-in-Picture-clause-desk : goal.returns-in_ok-answer_picture-in-Picture-clause-desk
returns-in_ok-answer_picture-in-Picture-clause-desk g c = grind (arith, common_steps)

pub returns-in_ok-answer_frame_digest-in-Digest-clause-desk : goal.returns-in_ok-answer_frame_digest-in-Digest-clause-desk
returns-in_ok-answer_frame_digest-in-Digest-clause-desk g c = grind (arith, common_steps)

pub returns-in_ok-answer_frame_digest-in-Digest-clause-answer : goal.returns-in_ok-answer_frame_digest-in-Digest-clause-answer
returns-in_ok-answer_frame_digest-in-Digest-clause-answer g c = grind (arith, common_steps)

pub returns-in_ok-answer_inputs-in-Inputs-clause-desk : goal.returns-in_ok-answer_inputs-in-Inputs-clause-desk
returns-in_ok-answer_inputs-in-Inputs-clause-desk g c = grind (arith, common_steps)

pub returns-in_ok-answer_inputs-in-Inputs-clause-answer : goal.returns-in_ok-answer_inputs-in-Inputs-clause-answer
returns-in_ok-answer_inputs-in-Inputs-clause-answer g c = grind (arith, common_steps)

pub returns-in_ok-answer_version-in-Version-clause-desk : goal.returns-in_ok-answer_version-in-Version-clause-desk
returns-in_ok-answer_version-in-Version-clause-desk g c = grind (arith, common_steps)

pub returns-in_ok-answer_version-in-Version-clause-answer : goal.returns-in_ok-answer_version-in-Version-clause-answer
returns-in_ok-answer_version-in-Version-clause-answer g c = rw c.in-Version.is (version_answered c.args.self.now c.in_ok-answer_version-in-Version.field-0.items c.in_ok-answer_version-in-Version.ensures)

pub returns-in_err-answer_version-in-Version-clause-answer : goal.returns-in_err-answer_version-in-Version-clause-answer
returns-in_err-answer_version-in-Version-clause-answer g c =
    let p = err_from_is_err_and c.from_residual-in_err-answer_version-in-Version.result c.from_residual-in_err-answer_version-in-Version.ensures.1 in
    rw (p.1, p.2) (rw c.in-Version.is (lost_version c.args.self.now c.in_err-answer_version-in-Version.field-0.0 c.in_err-answer_version-in-Version.ensures))

pub returns-in_ok-answer_states-in-States-clause-answer : goal.returns-in_ok-answer_states-in-States-clause-answer
returns-in_ok-answer_states-in-States-clause-answer g c = grind (arith, common_steps)

pub returns-in_ok-answer_script_line-in-Do-clause-desk : goal.returns-in_ok-answer_script_line-in-Do-clause-desk
returns-in_ok-answer_script_line-in-Do-clause-desk g c = grind (arith, common_steps)

pub returns-in_ok-answer_movie-in-Movie-clause-answer : goal.returns-in_ok-answer_movie-in-Movie-clause-answer
returns-in_ok-answer_movie-in-Movie-clause-answer g c = grind (arith, common_steps)

pub returns-in_ok-answer_pictures-in-Pictures-clause-answer : goal.returns-in_ok-answer_pictures-in-Pictures-clause-answer
returns-in_ok-answer_pictures-in-Pictures-clause-answer g c = grind (arith, common_steps)

pub returns-in_ok-answer_retouch-in-Retouch-clause-answer : goal.returns-in_ok-answer_retouch-in-Retouch-clause-answer
returns-in_ok-answer_retouch-in-Retouch-clause-answer g c = grind (arith, common_steps)

pub returns-in_ok-answer_picture-in-Picture-clause-answer : goal.returns-in_ok-answer_picture-in-Picture-clause-answer
returns-in_ok-answer_picture-in-Picture-clause-answer g c = grind (arith, common_steps)

pub returns-in_ok-answer_script_line-in-Do-clause-answer : goal.returns-in_ok-answer_script_line-in-Do-clause-answer
returns-in_ok-answer_script_line-in-Do-clause-answer g c = grind (arith, common_steps)
