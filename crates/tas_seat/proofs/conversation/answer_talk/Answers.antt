use Rattle.std.proofs.lemmas.Grind.{common_steps}
use Rattle.std.proofs.Common.{◌∙◌, refl, sym, ap, arith}
use Rattle.std.proofs.lemmas.Result.{err_from_is_err_and}
use Rattle.tas_language.specs.declared.request.Request.TheVariants.{Begin, Commit, Drop}
use Rattle.tas_seat.specs.Conversations.{talking}
use Rattle.tas_seat.proofs.SubjectLemmas.{begin_no_end, commit_no_end, drop_no_end, desk_no_end, movie_no_end, desk_no_movie, asked_as, unanswered_as, is_begin, is_commit, is_drop, desk_said, movie_in_draft, movie_at_desk}
use Rattle.tas_seat.specs.Subjects.{subject_of}
use Rattle.tas_seat.proofs.EntryLemmas.{shows, look_subject}
use Rattle.tas_seat.proofs.conversation.answer_talk.Goals as goal

pub returns-in_ok-answer_begin-in-Begin-clause-answer : goal.returns-in_ok-answer_begin-in-Begin-clause-answer
returns-in_ok-answer_begin-in-Begin-clause-answer g c =
    asked_as (talking c.args.seat.now c.args.draft.now) _ c.args.request Begin _ (is_begin c.args.request (sym c.request_subject.ensures ∙ c.in-Begin.is)) c.in_ok-answer_begin-in-Begin.ensures.answer

pub returns-in_err-answer_begin-in-Begin-clause-answer : goal.returns-in_err-answer_begin-in-Begin-clause-answer
returns-in_err-answer_begin-in-Begin-clause-answer g c =
    let p = err_from_is_err_and c.from_residual.result c.from_residual.ensures.1 in
    rw (p.1, p.2)
    (unanswered_as (talking c.args.seat.now c.args.draft.now) _ c.args.request Begin _ (is_begin c.args.request (sym c.request_subject.ensures ∙ c.in-Begin.is)) c.in_err-answer_begin-in-Begin.ensures.answer)

pub returns-in_ok-answer_commit-in-Commit-clause-answer : goal.returns-in_ok-answer_commit-in-Commit-clause-answer
returns-in_ok-answer_commit-in-Commit-clause-answer g c =
    asked_as (talking c.args.seat.now c.args.draft.now) _ c.args.request Commit _ (is_commit c.args.request (sym c.request_subject.ensures ∙ c.in-Commit.is)) c.in_ok-answer_commit-in-Commit.ensures.answer

pub returns-in_err-answer_commit-in-Commit-clause-answer : goal.returns-in_err-answer_commit-in-Commit-clause-answer
returns-in_err-answer_commit-in-Commit-clause-answer g c =
    let p = err_from_is_err_and c.from_residual-in_err-answer_commit-in-Commit.result c.from_residual-in_err-answer_commit-in-Commit.ensures.1 in
    rw (p.1, p.2)
    (unanswered_as (talking c.args.seat.now c.args.draft.now) _ c.args.request Commit _ (is_commit c.args.request (sym c.request_subject.ensures ∙ c.in-Commit.is)) c.in_err-answer_commit-in-Commit.ensures.answer)

pub returns-in_ok-answer_drop-in-Drop-clause-answer : goal.returns-in_ok-answer_drop-in-Drop-clause-answer
returns-in_ok-answer_drop-in-Drop-clause-answer g c =
    asked_as (talking c.args.seat.now c.args.draft.now) _ c.args.request Drop _ (is_drop c.args.request (sym c.request_subject.ensures ∙ c.in-Drop.is)) (c.in_ok-answer_drop-in-Drop.ensures.answer c.args.seat.now)

pub returns-in_err-answer_drop-in-Drop-clause-answer : goal.returns-in_err-answer_drop-in-Drop-clause-answer
returns-in_err-answer_drop-in-Drop-clause-answer g c =
    let p = err_from_is_err_and c.from_residual-in_err-answer_drop-in-Drop.result c.from_residual-in_err-answer_drop-in-Drop.ensures.1 in
    rw (p.1, p.2)
    (unanswered_as (talking c.args.seat.now c.args.draft.now) _ c.args.request Drop _ (is_drop c.args.request (sym c.request_subject.ensures ∙ c.in-Drop.is)) (c.in_err-answer_drop-in-Drop.ensures.answer c.args.seat.now))

pub returns-in-Desk-clause-answer : goal.returns-in-Desk-clause-answer
returns-in-Desk-clause-answer g c =
    desk_said g.row.A.Denot c.args.seat.now c.answer_request.new.seat c.args.draft.now c.args.request c.answer_request.result (λ bytes. bytes.items) (sym c.request_subject.ensures ∙ c.in-Desk.is) c.answer_request.ensures.answer

pub returns-in-Some-clause-answer : goal.returns-in-Some-clause-answer
returns-in-Some-clause-answer g c =
    movie_in_draft c.args.seat.now c.args.draft.now _ c.in-Some.opened c.answer_in_draft.new.opened c.args.request c.answer_in_draft.result (λ bytes. bytes.items) c.in-Some.is refl (c.answer_in_draft.ensures.answer c.args.seat.now)

pub returns-in-None-clause-answer : goal.returns-in-None-clause-answer
returns-in-None-clause-answer g c =
    movie_at_desk c.args.seat.now c.answer_request-in-None.new.seat c.args.draft.now _ c.args.request c.answer_request-in-None.result (λ bytes. bytes.items) c.in-None.is c.in-None.is (sym c.request_subject.ensures ∙ c.in-Movie.is)
    c.answer_request-in-None.ensures.answer

pub returns-in_ok-answer_begin-in-Begin-clause-quit : goal.returns-in_ok-answer_begin-in-Begin-clause-quit
returns-in_ok-answer_begin-in-Begin-clause-quit g c = λ quit. absurd (begin_no_end (sym c.in-Begin.is ∙ c.request_subject.ensures ∙ ap subject_of quit))

pub returns-in_err-answer_begin-in-Begin-clause-quit : goal.returns-in_err-answer_begin-in-Begin-clause-quit
returns-in_err-answer_begin-in-Begin-clause-quit g c = λ quit. absurd (begin_no_end (sym c.in-Begin.is ∙ c.request_subject.ensures ∙ ap subject_of quit))

pub returns-in_err-answer_begin-in-Begin-clause-entry : goal.returns-in_err-answer_begin-in-Begin-clause-entry
returns-in_err-answer_begin-in-Begin-clause-entry g c =
    let p = err_from_is_err_and c.from_residual.result c.from_residual.ensures.1 in
    rw (p.1, p.2) (λ e. absurd (c.in_err-answer_begin-in-Begin.ensures.entry e))

pub returns-in_ok-answer_commit-in-Commit-clause-quit : goal.returns-in_ok-answer_commit-in-Commit-clause-quit
returns-in_ok-answer_commit-in-Commit-clause-quit g c = λ quit. absurd (commit_no_end (sym c.in-Commit.is ∙ c.request_subject.ensures ∙ ap subject_of quit))

pub returns-in_err-answer_commit-in-Commit-clause-quit : goal.returns-in_err-answer_commit-in-Commit-clause-quit
returns-in_err-answer_commit-in-Commit-clause-quit g c = λ quit. absurd (commit_no_end (sym c.in-Commit.is ∙ c.request_subject.ensures ∙ ap subject_of quit))

pub returns-in_err-answer_commit-in-Commit-clause-entry : goal.returns-in_err-answer_commit-in-Commit-clause-entry
returns-in_err-answer_commit-in-Commit-clause-entry g c =
    let p = err_from_is_err_and c.from_residual-in_err-answer_commit-in-Commit.result c.from_residual-in_err-answer_commit-in-Commit.ensures.1 in
    rw (p.1, p.2) (λ e. absurd (c.in_err-answer_commit-in-Commit.ensures.entry e))

pub returns-in_ok-answer_drop-in-Drop-clause-quit : goal.returns-in_ok-answer_drop-in-Drop-clause-quit
returns-in_ok-answer_drop-in-Drop-clause-quit g c = λ quit. absurd (drop_no_end (sym c.in-Drop.is ∙ c.request_subject.ensures ∙ ap subject_of quit))

pub returns-in_err-answer_drop-in-Drop-clause-quit : goal.returns-in_err-answer_drop-in-Drop-clause-quit
returns-in_err-answer_drop-in-Drop-clause-quit g c = λ quit. absurd (drop_no_end (sym c.in-Drop.is ∙ c.request_subject.ensures ∙ ap subject_of quit))

pub returns-in_err-answer_drop-in-Drop-clause-entry : goal.returns-in_err-answer_drop-in-Drop-clause-entry
returns-in_err-answer_drop-in-Drop-clause-entry g c =
    let p = err_from_is_err_and c.from_residual-in_err-answer_drop-in-Drop.result c.from_residual-in_err-answer_drop-in-Drop.ensures.1 in
    rw (p.1, p.2) (λ e. absurd (c.in_err-answer_drop-in-Drop.ensures.entry e))

pub returns-in-Desk-clause-quit : goal.returns-in-Desk-clause-quit
returns-in-Desk-clause-quit g c = λ quit. absurd (desk_no_end (sym c.in-Desk.is ∙ c.request_subject.ensures ∙ ap subject_of quit))

pub returns-in-Desk-clause-entry : goal.returns-in-Desk-clause-entry
returns-in-Desk-clause-entry g c = shows c.answer_request.result (λ look. absurd (desk_no_movie (sym c.in-Desk.is ∙ c.request_subject.ensures ∙ look_subject c.args.request look))) c.answer_request.ensures.entry

pub returns-in-Some-clause-quit : goal.returns-in-Some-clause-quit
returns-in-Some-clause-quit g c = λ quit. absurd (movie_no_end (sym c.in-Movie.is ∙ c.request_subject.ensures ∙ ap subject_of quit))

pub returns-in-Some-clause-entry : goal.returns-in-Some-clause-entry
returns-in-Some-clause-entry g c = shows c.answer_in_draft.result (λ none. absurd none) c.answer_in_draft.ensures.entry

pub returns-in-None-clause-quit : goal.returns-in-None-clause-quit
returns-in-None-clause-quit g c = λ quit. absurd (movie_no_end (sym c.in-Movie.is ∙ c.request_subject.ensures ∙ ap subject_of quit))

pub returns-in-None-clause-entry : goal.returns-in-None-clause-entry
returns-in-None-clause-entry g c = shows c.answer_request-in-None.result (λ look. (look, c.in-None.is)) c.answer_request-in-None.ensures.entry

pub returns-in-End-clause-answer : goal.returns-in-End-clause-answer
returns-in-End-clause-answer g c = grind (arith, common_steps)
