use Rattle.std.proofs.lemmas.Grind.{common_steps}
use Rattle.std.proofs.Common.{refl, subst, List, ℕ, Bool, ap, ◌∙◌, length, arith}
use Rattle.std.specs.Io.KnownBytes.{Appends}
use Rattle.byte_text.specs.CutOff.{IsCutOff}
use Rattle.tas_seat.specs.Conversations.{talking}
use Rattle.tas_journaling.specs.Noting.{may_edit}
use Rattle.tas_journaling.proofs.NoteLemmas.{keeps_up_from}
use Rattle.tas_journaling.proofs.answering.answer_noted.Goals as goal

pub returns-in-Err-note_answer-clause-answer : goal.returns-in-Err-note_answer-clause-answer
returns-in-Err-note_answer-clause-answer g c =
    let answered = rw c.in-Some.is at c.in-Ok.ensures.answer in (
      c.in-Some.bytes.items,
      record { seat = c.answer_talk.new.seat; answered = answered; shown = c.in-Err-note_answer.ensures.seat },
      refl,
      g.met.H.Noting.laws.short_on (talking c.args.seat.now c.args.draft.now) (talking c.answer_talk.new.seat c.answer_talk.new.draft) c.note_answer.new.seat c.args.request c.in-Some.bytes.items c.args.journal.now c.note_answer.new.self c.in-Err-note_answer.fault answered c.in-Err-note_answer.ensures.fault,
    )

pub returns-clause-answer : goal.returns-clause-answer
returns-clause-answer g c =
    let answered = rw c.in-Some.is at c.in-Ok.ensures.answer in (
      c.in-Some.bytes.items,
      record { seat = c.answer_talk.new.seat; answered = answered; shown = c.in_default-note_answer.ensures.seat },
      subst (λ (l : List ℕ). IsCutOff (g.W.Write.contents c.args.output.now) (g.W.Write.contents c.hand_out.new.output) l c.in-Err-hand_out.sent) c.as_slice.ensures.value c.in-Err-hand_out.ensures.cut,
      keeps_up_from g.met.H.Noting.laws (talking c.args.seat.now c.args.draft.now) (talking c.answer_talk.new.seat c.answer_talk.new.draft) c.note_answer.new.seat c.args.request c.in-Some.bytes.items c.may_edit-edits.result c.args.journal.now c.note_answer.new.self answered (c.may_edit-edits.ensures ∙ ap (λ (b : Bool). may_edit b c.args.request) c.is_some.ensures) c.in_default-note_answer.ensures.done,
    )

pub returns-in-Ok-hand_out-clause-answer : goal.returns-in-Ok-hand_out-clause-answer
returns-in-Ok-hand_out-clause-answer g c =
    let answered = rw c.in-Some.is at c.in-Ok.ensures.answer in (
      c.in-Some.bytes.items,
      record { seat = c.answer_talk.new.seat; answered = answered; shown = c.in_default-note_answer.ensures.seat },
      subst (λ (l : List ℕ). Appends (g.W.Write.contents c.args.output.now) (g.W.Write.contents c.hand_out.new.output) l) c.as_slice.ensures.value c.in-Ok-hand_out.ensures.out,
      keeps_up_from g.met.H.Noting.laws (talking c.args.seat.now c.args.draft.now) (talking c.answer_talk.new.seat c.answer_talk.new.draft) c.note_answer.new.seat c.args.request c.in-Some.bytes.items c.may_edit-edits.result c.args.journal.now c.note_answer.new.self answered (c.may_edit-edits.ensures ∙ ap (λ (b : Bool). may_edit b c.args.request) c.is_some.ensures) c.in_default-note_answer.ensures.done,
      c.in-Ok-hand_out.ensures.count ∙ ap (λ (l : List ℕ). length l) c.as_slice.ensures.value,
    )

pub returns-in-Err-note_answer-clause-entry : goal.returns-in-Err-note_answer-clause-entry
returns-in-Err-note_answer-clause-entry g c = grind (arith, common_steps)

pub returns-in-Err-clause-entry : goal.returns-in-Err-clause-entry
returns-in-Err-clause-entry g c = grind (arith, common_steps)

pub returns-in-Err-note_answer-clause-failed : goal.returns-in-Err-note_answer-clause-failed
returns-in-Err-note_answer-clause-failed g c = grind (arith, common_steps)

pub returns-clause-failed : goal.returns-clause-failed
returns-clause-failed g c = grind (arith, common_steps)

pub returns-in-Ok-hand_out-clause-failed : goal.returns-in-Ok-hand_out-clause-failed
returns-in-Ok-hand_out-clause-failed g c = grind (arith, common_steps)

pub returns-in_default-clause-answer : goal.returns-in_default-clause-answer
returns-in_default-clause-answer g c = grind (arith, common_steps)

pub returns-clause-entry : goal.returns-clause-entry
returns-clause-entry g c = grind (arith, common_steps)
