use Rattle.std.proofs.Common.{arith, sym, ◌∙◌}
use Rattle.std.proofs.lemmas.Grind.{common_steps}
use Rattle.std.proofs.lemmas.Result.{err_from_is_err_and}
use Rattle.tas_seat.proofs.AnswerLemmas.{version_answered, lost_version}
use Rattle.tas_seat.proofs.EntryLemmas.{memory_no_entry}
use Rattle.tas_seat.proofs.requests.answer_request.Goals as goal

pub returns-in_ok-answer_script_line-in-Do-clause-answer : goal.returns-in_ok-answer_script_line-in-Do-clause-answer
returns-in_ok-answer_script_line-in-Do-clause-answer g c = rw c.in-Do.is c.in_ok-answer_script_line-in-Do.ensures.answer

pub returns-in_ok-answer_retouch-in-Retouch-clause-answer : goal.returns-in_ok-answer_retouch-in-Retouch-clause-answer
returns-in_ok-answer_retouch-in-Retouch-clause-answer g c = rw c.in-Retouch.is c.in_ok-answer_retouch-in-Retouch.ensures.answer

pub returns-in_ok-answer_picture-in-Picture-clause-answer : goal.returns-in_ok-answer_picture-in-Picture-clause-answer
returns-in_ok-answer_picture-in-Picture-clause-answer g c = rw c.in-Picture.is c.in_ok-answer_picture-in-Picture.ensures

pub returns-in_ok-answer_pictures-in-Pictures-clause-answer : goal.returns-in_ok-answer_pictures-in-Pictures-clause-answer
returns-in_ok-answer_pictures-in-Pictures-clause-answer g c = rw c.in-Pictures.is c.in_ok-answer_pictures-in-Pictures.ensures

pub returns-in_ok-answer_frame_digest-in-Digest-clause-answer : goal.returns-in_ok-answer_frame_digest-in-Digest-clause-answer
returns-in_ok-answer_frame_digest-in-Digest-clause-answer g c = rw c.in-Digest.is c.in_ok-answer_frame_digest-in-Digest.ensures

pub returns-in_ok-answer_inputs-in-Inputs-clause-answer : goal.returns-in_ok-answer_inputs-in-Inputs-clause-answer
returns-in_ok-answer_inputs-in-Inputs-clause-answer g c = rw c.in-Inputs.is c.in_ok-answer_inputs-in-Inputs.ensures.answer

pub returns-in_ok-answer_movie-in-Movie-clause-answer : goal.returns-in_ok-answer_movie-in-Movie-clause-answer
returns-in_ok-answer_movie-in-Movie-clause-answer g c = rw c.in-Movie.is c.in_ok-answer_movie-in-Movie.ensures.answer

pub returns-in_ok-answer_states-in-States-clause-answer : goal.returns-in_ok-answer_states-in-States-clause-answer
returns-in_ok-answer_states-in-States-clause-answer g c = rw c.in-States.is c.in_ok-answer_states-in-States.ensures.answer

pub returns-in_ok-answer_share-in-Share-clause-answer : goal.returns-in_ok-answer_share-in-Share-clause-answer
returns-in_ok-answer_share-in-Share-clause-answer g c = rw c.in-Share.is c.in_ok-answer_share-in-Share.ensures.answer

pub returns-in_ok-answer_history-in-History-clause-answer : goal.returns-in_ok-answer_history-in-History-clause-answer
returns-in_ok-answer_history-in-History-clause-answer g c = rw c.in-History.is c.in_ok-answer_history-in-History.ensures.answer

pub returns-in_ok-answer_version-in-Version-clause-answer : goal.returns-in_ok-answer_version-in-Version-clause-answer
returns-in_ok-answer_version-in-Version-clause-answer g c = rw c.in-Version.is (version_answered c.args.seat.now c.in_ok-answer_version-in-Version.field-0.items c.in_ok-answer_version-in-Version.ensures)

pub returns-in_err-answer_version-in-Version-clause-answer : goal.returns-in_err-answer_version-in-Version-clause-answer
returns-in_err-answer_version-in-Version-clause-answer g c =
    let p = err_from_is_err_and c.from_residual-in_err-answer_version-in-Version.result c.from_residual-in_err-answer_version-in-Version.ensures.1 in
    rw (p.1, p.2) (rw c.in-Version.is (lost_version c.args.seat.now c.in_err-answer_version-in-Version.field-0.0 c.in_err-answer_version-in-Version.ensures))

pub returns-in_ok-answer_version-in-Version-clause-talk : goal.returns-in_ok-answer_version-in-Version-clause-talk
returns-in_ok-answer_version-in-Version-clause-talk g c = λ talk. absurd (rw c.in-Version.is at talk)

pub returns-in_err-answer_version-in-Version-clause-talk : goal.returns-in_err-answer_version-in-Version-clause-talk
returns-in_err-answer_version-in-Version-clause-talk g c = λ talk. absurd (rw c.in-Version.is at talk)

pub returns-in_err-answer_version-in-Version-clause-entry : goal.returns-in_err-answer_version-in-Version-clause-entry
returns-in_err-answer_version-in-Version-clause-entry g c =
    let p = err_from_is_err_and c.from_residual-in_err-answer_version-in-Version.result c.from_residual-in_err-answer_version-in-Version.ensures.1 in
    rw (p.1, p.2) (λ e. absurd (memory_no_entry (sym c.in_err-answer_version-in-Version.ensures ∙ e)))

pub returns-in_ok-answer_script_line-in-Do-clause-talk : goal.returns-in_ok-answer_script_line-in-Do-clause-talk
returns-in_ok-answer_script_line-in-Do-clause-talk g c = λ talk. absurd (rw c.in-Do.is at talk)

pub returns-in_err-answer_script_line-in-Do-clause-talk : goal.returns-in_err-answer_script_line-in-Do-clause-talk
returns-in_err-answer_script_line-in-Do-clause-talk g c = λ talk. absurd (rw c.in-Do.is at talk)

pub returns-in_ok-answer_retouch-in-Retouch-clause-talk : goal.returns-in_ok-answer_retouch-in-Retouch-clause-talk
returns-in_ok-answer_retouch-in-Retouch-clause-talk g c = λ talk. absurd (rw c.in-Retouch.is at talk)

pub returns-in_err-answer_retouch-in-Retouch-clause-talk : goal.returns-in_err-answer_retouch-in-Retouch-clause-talk
returns-in_err-answer_retouch-in-Retouch-clause-talk g c = λ talk. absurd (rw c.in-Retouch.is at talk)

pub returns-in_ok-answer_picture-in-Picture-clause-talk : goal.returns-in_ok-answer_picture-in-Picture-clause-talk
returns-in_ok-answer_picture-in-Picture-clause-talk g c = λ talk. absurd (rw c.in-Picture.is at talk)

pub returns-in_err-answer_picture-in-Picture-clause-talk : goal.returns-in_err-answer_picture-in-Picture-clause-talk
returns-in_err-answer_picture-in-Picture-clause-talk g c = λ talk. absurd (rw c.in-Picture.is at talk)

pub returns-in_ok-answer_pictures-in-Pictures-clause-talk : goal.returns-in_ok-answer_pictures-in-Pictures-clause-talk
returns-in_ok-answer_pictures-in-Pictures-clause-talk g c = λ talk. absurd (rw c.in-Pictures.is at talk)

pub returns-in_err-answer_pictures-in-Pictures-clause-talk : goal.returns-in_err-answer_pictures-in-Pictures-clause-talk
returns-in_err-answer_pictures-in-Pictures-clause-talk g c = λ talk. absurd (rw c.in-Pictures.is at talk)

pub returns-in_ok-answer_frame_digest-in-Digest-clause-talk : goal.returns-in_ok-answer_frame_digest-in-Digest-clause-talk
returns-in_ok-answer_frame_digest-in-Digest-clause-talk g c = λ talk. absurd (rw c.in-Digest.is at talk)

pub returns-in_err-answer_frame_digest-in-Digest-clause-talk : goal.returns-in_err-answer_frame_digest-in-Digest-clause-talk
returns-in_err-answer_frame_digest-in-Digest-clause-talk g c = λ talk. absurd (rw c.in-Digest.is at talk)

pub returns-in_ok-answer_inputs-in-Inputs-clause-talk : goal.returns-in_ok-answer_inputs-in-Inputs-clause-talk
returns-in_ok-answer_inputs-in-Inputs-clause-talk g c = λ talk. absurd (rw c.in-Inputs.is at talk)

pub returns-in_err-answer_inputs-in-Inputs-clause-talk : goal.returns-in_err-answer_inputs-in-Inputs-clause-talk
returns-in_err-answer_inputs-in-Inputs-clause-talk g c = λ talk. absurd (rw c.in-Inputs.is at talk)

pub returns-in_ok-answer_movie-in-Movie-clause-talk : goal.returns-in_ok-answer_movie-in-Movie-clause-talk
returns-in_ok-answer_movie-in-Movie-clause-talk g c = λ talk. absurd (rw c.in-Movie.is at talk)

pub returns-in_err-answer_movie-in-Movie-clause-talk : goal.returns-in_err-answer_movie-in-Movie-clause-talk
returns-in_err-answer_movie-in-Movie-clause-talk g c = λ talk. absurd (rw c.in-Movie.is at talk)

pub returns-in_ok-answer_states-in-States-clause-talk : goal.returns-in_ok-answer_states-in-States-clause-talk
returns-in_ok-answer_states-in-States-clause-talk g c = λ talk. absurd (rw c.in-States.is at talk)

pub returns-in_err-answer_states-in-States-clause-talk : goal.returns-in_err-answer_states-in-States-clause-talk
returns-in_err-answer_states-in-States-clause-talk g c = λ talk. absurd (rw c.in-States.is at talk)

pub returns-in_ok-answer_share-in-Share-clause-talk : goal.returns-in_ok-answer_share-in-Share-clause-talk
returns-in_ok-answer_share-in-Share-clause-talk g c = λ talk. absurd (rw c.in-Share.is at talk)

pub returns-in_err-answer_share-in-Share-clause-talk : goal.returns-in_err-answer_share-in-Share-clause-talk
returns-in_err-answer_share-in-Share-clause-talk g c = λ talk. absurd (rw c.in-Share.is at talk)

pub returns-in_ok-answer_history-in-History-clause-talk : goal.returns-in_ok-answer_history-in-History-clause-talk
returns-in_ok-answer_history-in-History-clause-talk g c = λ talk. absurd (rw c.in-History.is at talk)

pub returns-in_err-answer_history-in-History-clause-talk : goal.returns-in_err-answer_history-in-History-clause-talk
returns-in_err-answer_history-in-History-clause-talk g c = λ talk. absurd (rw c.in-History.is at talk)

pub returns-in_err-answer_script_line-in-Do-clause-entry : goal.returns-in_err-answer_script_line-in-Do-clause-entry
returns-in_err-answer_script_line-in-Do-clause-entry g c =
    let p = err_from_is_err_and c.from_residual.result c.from_residual.ensures.1 in
    rw (p.1, p.2) (λ e. rw c.in-Do.is (c.in_err-answer_script_line-in-Do.ensures.entry e))

pub returns-in_err-answer_retouch-in-Retouch-clause-entry : goal.returns-in_err-answer_retouch-in-Retouch-clause-entry
returns-in_err-answer_retouch-in-Retouch-clause-entry g c =
    let p = err_from_is_err_and c.from_residual-in_err-answer_retouch-in-Retouch.result c.from_residual-in_err-answer_retouch-in-Retouch.ensures.1 in
    rw (p.1, p.2) (λ e. absurd (c.in_err-answer_retouch-in-Retouch.ensures.entry e))

pub returns-in_err-answer_picture-in-Picture-clause-entry : goal.returns-in_err-answer_picture-in-Picture-clause-entry
returns-in_err-answer_picture-in-Picture-clause-entry g c =
    let p = err_from_is_err_and c.from_residual-in_err-answer_picture-in-Picture.result c.from_residual-in_err-answer_picture-in-Picture.ensures.1 in
    rw (p.1, p.2) (λ e. rw c.in-Picture.is tt)

pub returns-in_err-answer_pictures-in-Pictures-clause-entry : goal.returns-in_err-answer_pictures-in-Pictures-clause-entry
returns-in_err-answer_pictures-in-Pictures-clause-entry g c =
    let p = err_from_is_err_and c.from_residual-in_err-answer_pictures-in-Pictures.result c.from_residual-in_err-answer_pictures-in-Pictures.ensures.1 in
    rw (p.1, p.2) (λ e. rw c.in-Pictures.is tt)

pub returns-in_err-answer_frame_digest-in-Digest-clause-entry : goal.returns-in_err-answer_frame_digest-in-Digest-clause-entry
returns-in_err-answer_frame_digest-in-Digest-clause-entry g c =
    let p = err_from_is_err_and c.from_residual-in_err-answer_frame_digest-in-Digest.result c.from_residual-in_err-answer_frame_digest-in-Digest.ensures.1 in
    rw (p.1, p.2) (λ e. rw c.in-Digest.is tt)

pub returns-in_err-answer_inputs-in-Inputs-clause-entry : goal.returns-in_err-answer_inputs-in-Inputs-clause-entry
returns-in_err-answer_inputs-in-Inputs-clause-entry g c =
    let p = err_from_is_err_and c.from_residual-in_err-answer_inputs-in-Inputs.result c.from_residual-in_err-answer_inputs-in-Inputs.ensures.1 in
    rw (p.1, p.2) (λ e. absurd (c.in_err-answer_inputs-in-Inputs.ensures.entry e))

pub returns-in_err-answer_movie-in-Movie-clause-entry : goal.returns-in_err-answer_movie-in-Movie-clause-entry
returns-in_err-answer_movie-in-Movie-clause-entry g c =
    let p = err_from_is_err_and c.from_residual-in_err-answer_movie-in-Movie.result c.from_residual-in_err-answer_movie-in-Movie.ensures.1 in
    rw (p.1, p.2) (λ e. absurd (c.in_err-answer_movie-in-Movie.ensures.entry e))

pub returns-in_err-answer_states-in-States-clause-entry : goal.returns-in_err-answer_states-in-States-clause-entry
returns-in_err-answer_states-in-States-clause-entry g c =
    let p = err_from_is_err_and c.from_residual-in_err-answer_states-in-States.result c.from_residual-in_err-answer_states-in-States.ensures.1 in
    rw (p.1, p.2) (λ e. absurd (c.in_err-answer_states-in-States.ensures.entry e))

pub returns-in_err-answer_share-in-Share-clause-entry : goal.returns-in_err-answer_share-in-Share-clause-entry
returns-in_err-answer_share-in-Share-clause-entry g c =
    let p = err_from_is_err_and c.from_residual-in_err-answer_share-in-Share.result c.from_residual-in_err-answer_share-in-Share.ensures.1 in
    rw (p.1, p.2) (λ e. absurd (c.in_err-answer_share-in-Share.ensures.entry e))

pub returns-in_err-answer_history-in-History-clause-entry : goal.returns-in_err-answer_history-in-History-clause-entry
returns-in_err-answer_history-in-History-clause-entry g c =
    let p = err_from_is_err_and c.from_residual-in_err-answer_history-in-History.result c.from_residual-in_err-answer_history-in-History.ensures.1 in
    rw (p.1, p.2) (λ e. absurd (c.in_err-answer_history-in-History.ensures.entry e))

pub returns-in-Begin-clause-answer : goal.returns-in-Begin-clause-answer
returns-in-Begin-clause-answer g c = grind (arith, common_steps)
