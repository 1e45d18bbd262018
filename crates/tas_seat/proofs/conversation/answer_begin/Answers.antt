use Rattle.std.proofs.lemmas.Grind.{common_steps}
use Rattle.std.proofs.Common.{◌∙◌, sym, ap, arith}
use Rattle.std.specs.Prelude.{length}
use Rattle.tas_movie.specs.Content.{MovieContent}
use Rattle.tas_language.specs.declared.reply.Reply.TheVariants.{OutOfMemory}
use Rattle.tas_language.specs.Replies.{reply_text}
use Rattle.tas_language.specs.declared.draft_reply.DraftReply.TheVariants.{Began}
use Rattle.tas_language.specs.Drafts.{draft_reply_text}
use Rattle.tas_language.specs.declared.request.Request.TheVariants.{Begin}
use Rattle.tas_seat.specs.Conversations.{talking}
use Rattle.tas_seat.proofs.ConversationLemmas.{said_text, begin_unshared, begin_unopened, begin_opened}
use Rattle.tas_seat.proofs.EntryLemmas.{memory_alone}
use Rattle.tas_seat.proofs.conversation.answer_begin.Goals as goal

pub returns-in_default-clause-answer : goal.returns-in_default-clause-answer
returns-in_default-clause-answer g c =
    said_text (talking c.args.seat.now c.args.draft.now) (talking c.bring.new.seat c.args.draft.now) Begin (reply_text OutOfMemory) c.answer_of_reply.result (λ bytes. bytes.items) c.answer_of_reply.ensures
    (begin_unshared g.row.A.Denot c.args.seat.now c.bring.new.seat c.args.draft.now (sym c.if-is_some.ensures) c.bring.ensures.seat c.in_default.ensures.zone)

pub returns-in_default-open_draft-clause-answer : goal.returns-in_default-open_draft-clause-answer
returns-in_default-open_draft-clause-answer g c =
    said_text (talking c.args.seat.now c.args.draft.now) (talking c.bring.new.seat c.args.draft.now) Begin (reply_text OutOfMemory) c.answer_of_reply-in_default-open_draft.result (λ bytes. bytes.items)
    c.answer_of_reply-in_default-open_draft.ensures
    (begin_unopened g.row.A.Denot c.args.seat.now c.bring.new.seat c.args.draft.now c.in-Ok.brought.gained (sym c.if-is_some.ensures) c.bring.ensures.seat c.in-Ok.ensures.zone)

pub returns-clause-answer : goal.returns-clause-answer
returns-clause-answer g c =
    said_text (talking c.args.seat.now c.args.draft.now) _ Begin (draft_reply_text (Began c.in-Ok.brought.at c.len-len.result)) c.answer_about_draft-2.result (λ bytes. bytes.items) c.answer_about_draft-2.ensures
    (begin_opened g.row.A.Denot c.args.seat.now c.bring.new.seat c.args.draft.now c.in-Ok-open_draft.opened c.in-Ok.brought.at c.len-len.result c.in-Ok.brought.gained (sym c.if-is_some.ensures) c.bring.ensures.seat c.in-Ok.ensures.at
    c.in-Ok.ensures.zone c.in-Ok-open_draft.ensures (c.len-len.ensures.len ∙ ap (λ (m : MovieContent). length m.inputs) c.zone_movie.ensures))

pub returns-then-is_some-clause-entry : goal.returns-then-is_some-clause-entry
returns-then-is_some-clause-entry g c = memory_alone _ _ c.answer_about_draft.result c.answer_about_draft.ensures

pub returns-in_default-clause-entry : goal.returns-in_default-clause-entry
returns-in_default-clause-entry g c = memory_alone _ _ c.answer_of_reply.result c.answer_of_reply.ensures

pub returns-in_default-open_draft-clause-entry : goal.returns-in_default-open_draft-clause-entry
returns-in_default-open_draft-clause-entry g c = memory_alone _ _ c.answer_of_reply-in_default-open_draft.result c.answer_of_reply-in_default-open_draft.ensures

pub returns-clause-entry : goal.returns-clause-entry
returns-clause-entry g c = memory_alone _ _ c.answer_about_draft-2.result c.answer_about_draft-2.ensures

pub returns-then-is_some-clause-answer : goal.returns-then-is_some-clause-answer
returns-then-is_some-clause-answer g c = grind (arith, common_steps)
