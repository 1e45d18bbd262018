use Rattle.std.proofs.Common.{Some, ap, subst}
use Rattle.std.proofs.lemmas.Result.{err_from_is_err_and}
use Rattle.std.proofs.KnownBytes.{Appends-nil}
use Rattle.tas_language.specs.declared.request.Request.{Request}
use Rattle.tas_language.specs.Requests.{IsHeard}
use Rattle.tas_language.specs.Unheard.{unknown_text}
use Rattle.tas_seat.specs.Conversations.{talking}
use Rattle.tas_seat.proofs.TalkLemmas.{unknown_line, unknown_cut, known_line, known_cut, line_fault}
use Rattle.tas_seat.proofs.talking.answer_line.Goals as goal

pub returns-in_default : goal.returns-in_default
returns-in_default g c = λ said holds none.
    unknown_line (talking c.args.seat.now c.args.draft.now) said _ c.args.written _ _ _ none (c.in_default.ensures said holds) (ap unknown_text (c.unheard.ensures said holds)) c.in_ok-answer_unknown.ensures.out c.in_ok-answer_unknown.ensures.count

pub returns-in_err-answer_unknown : goal.returns-in_err-answer_unknown
returns-in_err-answer_unknown g c = λ said holds none.
    let p = err_from_is_err_and c.from_residual.result c.from_residual.ensures.1 in
    rw (p.1, p.2) (unknown_cut (talking c.args.seat.now c.args.draft.now) said _ c.args.written _ _ _ none (c.in_default.ensures said holds) (ap unknown_text (c.unheard.ensures said holds)) c.in_err-answer_unknown.ensures.fault)

pub returns-in_default-2 : goal.returns-in_default-2
returns-in_default-2 g c = λ said holds none.
    let quits = rw c.in_default-2.is at c.in_ok-bytes.ensures.answer in (subst (λ (r : Request). IsHeard said (Some r)) quits.0 (c.in-Some.ensures said holds), quits.1, Appends-nil _)

pub returns-in_err-bytes : goal.returns-in_err-bytes
returns-in_err-bytes g c = λ said holds none.
    let p = err_from_is_err_and c.from_residual-in_err-bytes.result c.from_residual-in_err-bytes.ensures.1 in
    rw (p.1, p.2) (line_fault (talking c.args.seat.now c.args.draft.now) (talking c.answer_talk.new.seat c.answer_talk.new.draft) said c.in-Some.request c.args.written _ c.in_err-bytes.field-0.0 none (c.in-Some.ensures said holds) c.in_err-bytes.ensures.answer c.in_err-bytes.ensures.entry)

pub returns : goal.returns
returns g c = λ said holds none.
    known_line (talking c.args.seat.now c.args.draft.now) (talking c.answer_talk.new.seat c.answer_talk.new.draft) said c.in-Some-2.bytes.items c.as_slice.result.now c.in-Some.request c.args.written _ _ _ none (c.in-Some.ensures said holds) (rw c.in-Some-2.is at c.in_ok-bytes.ensures.answer) c.as_slice.ensures.value
    c.in_ok-hand_out.ensures.out c.in_ok-hand_out.ensures.count

pub returns-in_err-hand_out : goal.returns-in_err-hand_out
returns-in_err-hand_out g c = λ said holds none.
    let p = err_from_is_err_and c.from_residual-in_err-hand_out.result c.from_residual-in_err-hand_out.ensures.1 in
    rw (p.1, p.2)
    (known_cut (talking c.args.seat.now c.args.draft.now) (talking c.answer_talk.new.seat c.answer_talk.new.draft) said c.in-Some-2.bytes.items c.as_slice.result.now c.in-Some.request c.args.written _ _ _ none (c.in-Some.ensures said holds) (rw c.in-Some-2.is at c.in_ok-bytes.ensures.answer) c.as_slice.ensures.value
    c.in_err-hand_out.ensures.fault)
