use Rattle.std.proofs.lemmas.Grind.{common_steps}
use Rattle.std.proofs.Common.{refl, sym, ◌∙◌, Some, None, arith}
use Rattle.tas_language.specs.Replies.{reply_text}
use Rattle.tas_language.specs.Drafts.{draft_reply_text}
use Rattle.tas_language.specs.declared.request.Request.TheVariants.{Commit}
use Rattle.std.proofs.lemmas.Result.{err_from_is_err_and}
use Rattle.tas_seat.specs.Conversations.{talking}
use Rattle.tas_seat.proofs.ConversationLemmas.{said_of, no_outcome}
use Rattle.tas_seat.proofs.EntryLemmas.{memory_alone, foreign_no_entry}
use Rattle.tas_seat.proofs.conversation.answer_commit.Goals as goal

pub returns-in-Made-clause-answer : goal.returns-in-Made-clause-answer
returns-in-Made-clause-answer g c =
    said_of c.args.seat.now c.make_stroke.new.seat c.args.draft.now _ (Some _) None Commit (draft_reply_text c.in-Made.reply) c.answer_about_draft-in-Made.result (λ bytes. bytes.items)
    c.in-Some.is refl c.answer_about_draft-in-Made.ensures (rw c.in-Made.is at c.in_ok-reply.ensures)

pub returns-in-Moved-clause-answer : goal.returns-in-Moved-clause-answer
returns-in-Moved-clause-answer g c =
    said_of c.args.seat.now c.make_stroke.new.seat c.args.draft.now _ (Some c.in-Some.opened) _ Commit (draft_reply_text c.in-Moved.reply) c.answer_about_draft-in-Moved.result (λ bytes. bytes.items) c.in-Some.is refl
    c.answer_about_draft-in-Moved.ensures (rw c.in-Moved.is at c.in_ok-reply.ensures)

pub returns-in_err-reply-clause-answer : goal.returns-in_err-reply-clause-answer
returns-in_err-reply-clause-answer g c =
    let p = err_from_is_err_and c.from_residual.result c.from_residual.ensures.1 in
    rw (p.1, p.2) (no_outcome (talking c.args.seat.now c.args.draft.now) (talking c.make_stroke.new.seat (Some c.in-Some.opened)) c.in_err-reply.field-0.0 (sym c.in-Some.is) c.in_err-reply.ensures)

pub returns-in-Refused-clause-answer : goal.returns-in-Refused-clause-answer
returns-in-Refused-clause-answer g c =
    said_of c.args.seat.now c.make_stroke.new.seat c.args.draft.now _ (Some c.in-Some.opened) _ Commit (reply_text c.in-Refused.reply) c.answer_of_reply.result (λ bytes. bytes.items) c.in-Some.is refl
    c.answer_of_reply.ensures (rw c.in-Refused.is at c.in_ok-reply.ensures)

pub returns-in_default-clause-entry : goal.returns-in_default-clause-entry
returns-in_default-clause-entry g c = memory_alone _ _ c.answer_about_draft.result c.answer_about_draft.ensures

pub returns-in-Made-clause-entry : goal.returns-in-Made-clause-entry
returns-in-Made-clause-entry g c = memory_alone _ _ c.answer_about_draft-in-Made.result c.answer_about_draft-in-Made.ensures

pub returns-in-Moved-clause-entry : goal.returns-in-Moved-clause-entry
returns-in-Moved-clause-entry g c = memory_alone _ _ c.answer_about_draft-in-Moved.result c.answer_about_draft-in-Moved.ensures

pub returns-in-Refused-clause-entry : goal.returns-in-Refused-clause-entry
returns-in-Refused-clause-entry g c = memory_alone _ _ c.answer_of_reply.result c.answer_of_reply.ensures

pub returns-in_err-reply-clause-entry : goal.returns-in_err-reply-clause-entry
returns-in_err-reply-clause-entry g c =
    let p = err_from_is_err_and c.from_residual.result c.from_residual.ensures.1 in
    rw (p.1, p.2) (λ e. absurd (foreign_no_entry (sym c.in_err-reply.ensures.0 ∙ e)))

pub returns-in_default-clause-answer : goal.returns-in_default-clause-answer
returns-in_default-clause-answer g c = grind (arith, common_steps)
