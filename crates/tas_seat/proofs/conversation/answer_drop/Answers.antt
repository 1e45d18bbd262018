use Rattle.std.proofs.lemmas.Grind.{common_steps}
use Rattle.std.proofs.Common.{◌∙◌, refl, sym, ap, None, arith}
use Rattle.std.specs.Prelude.{is_some}
use Rattle.tas_language.specs.declared.draft_reply.DraftReply.TheVariants.{Dropped}
use Rattle.tas_language.specs.Drafts.{draft_reply_text}
use Rattle.tas_language.specs.declared.request.Request.TheVariants.{Drop}
use Rattle.tas_seat.proofs.ConversationLemmas.{said_of, dropped}
use Rattle.tas_seat.proofs.EntryLemmas.{memory_alone}
use Rattle.tas_seat.proofs.conversation.answer_drop.Goals as goal

pub returns-clause-answer : goal.returns-clause-answer
returns-clause-answer g c = λ seat.
    said_of seat seat c.args.draft.now c.take.new.self c.args.draft.now None Drop (draft_reply_text Dropped) c.answer_about_draft-2.result (λ bytes. bytes.items) refl c.take.ensures.after c.answer_about_draft-2.ensures
    (dropped g.row.A.Denot seat c.args.draft.now (sym c.if-is_none.ensures ∙ ap is_some c.take.ensures.value))

pub returns-then-is_none-clause-entry : goal.returns-then-is_none-clause-entry
returns-then-is_none-clause-entry g c = memory_alone _ _ c.answer_about_draft.result c.answer_about_draft.ensures

pub returns-clause-entry : goal.returns-clause-entry
returns-clause-entry g c = memory_alone _ _ c.answer_about_draft-2.result c.answer_about_draft-2.ensures

pub returns-then-is_none-clause-answer : goal.returns-then-is_none-clause-answer
returns-then-is_none-clause-answer g c = grind (arith, common_steps)
