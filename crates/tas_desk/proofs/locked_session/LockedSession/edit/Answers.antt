use Rattle.std.proofs.lemmas.Grind.{common_steps}
use Rattle.std.proofs.Common.{ap, rules, arith}
use Rattle.std.proofs.lemmas.Result.{err_from_is_err_and}
use Rattle.tas_desk.specs.Locked.{LockedContent}
use Rattle.tas_desk.specs.Seats.{SeatContent}
use Rattle.tas_session.proofs.RefusalLemmas.{refused_as}
use Rattle.tas_desk.proofs.AnswerLemmas.{refusal_answered, receipt_answered}
use Rattle.tas_desk.proofs.LockedLemmas.{locked_edited}
use Rattle.tas_desk.proofs.locked_session.LockedSession.edit.Goals as goal

pub returns-in_err-receipt-clause-refusal : goal.returns-in_err-receipt-clause-refusal
returns-in_err-receipt-clause-refusal g c =
    let p = err_from_is_err_and c.from_residual.result c.from_residual.ensures.1 in
    rw (p.1, p.2)
    (refused_as c.self.inside.session _ _ _ _ _ c.args.edit c.in_err-receipt.field-0.0 c.in_err-receipt.ensures.refusal c.show_to.ensures.history (ap (λ (l : LockedContent _). l.journal) c.self.view_is)
    (ap (λ (s : SeatContent _). s.number) c.seat.view_is) (ap (λ (s : SeatContent _). s.made) c.seat.view_is))

pub returns-clause-done : goal.returns-clause-done
returns-clause-done g c =
    locked_edited c.self.inside.session _ _ _ _ _ _ c.args.edit c.in_ok-receipt.ensures.done c.show_to.ensures.history c.self.view_is
    (ap (λ (s : SeatContent _). s.number) c.seat.view_is) (ap (λ (s : SeatContent _). s.made) c.seat.view_is)

pub returns-clause-seat : goal.returns-clause-seat
returns-clause-seat g c = search rules

pub returns-in_err-receipt-clause-answered : goal.returns-in_err-receipt-clause-answered
returns-in_err-receipt-clause-answered g c =
    let p = err_from_is_err_and c.from_residual.result c.from_residual.ensures.1 in
    rw (p.1, p.2)
    (refusal_answered _ _ _ c.args.edit c.in_err-receipt.field-0.0
    (refused_as c.self.inside.session _ _ _ _ _ c.args.edit c.in_err-receipt.field-0.0 c.in_err-receipt.ensures.refusal c.show_to.ensures.history (ap (λ (l : LockedContent _). l.journal) c.self.view_is)
    (ap (λ (s : SeatContent _). s.number) c.seat.view_is) (ap (λ (s : SeatContent _). s.made) c.seat.view_is)))

pub returns-clause-answered : goal.returns-clause-answered
returns-clause-answered g c = receipt_answered c.self.inside.session _ _ _ c.args.edit _ c.in_ok-receipt.ensures.refusal c.in_ok-receipt.ensures.receipt c.show_to.ensures.history (ap (λ (l : LockedContent _). l.journal) c.self.view_is)

pub invariant_of-seat : goal.invariant_of-seat
invariant_of-seat g c = grind (arith, common_steps)

pub invariant_of-seat-2 : goal.invariant_of-seat-2
invariant_of-seat-2 g c = grind (arith, common_steps)

pub overflow_add-seat : goal.overflow_add-seat
overflow_add-seat g c = grind (arith, common_steps)

pub invariant_of-self-2 : goal.invariant_of-self-2
invariant_of-self-2 g c = grind (arith, common_steps)

pub returns-clause-begins : goal.returns-clause-begins
returns-clause-begins g c = grind (arith, common_steps)
