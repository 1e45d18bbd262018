use Rattle.std.proofs.lemmas.Grind.{common_steps}
use Rattle.std.proofs.Common.{ap, arith}
use Rattle.std.proofs.lemmas.Result.{err_from_is_err_and}
use Rattle.tas_published.specs.Strokes.{edits_of}
use Rattle.tas_desk.specs.Locked.{LockedContent}
use Rattle.tas_desk.specs.Seats.{SeatContent}
use Rattle.tas_desk.proofs.CommitLemmas.{commit_refused, none_refused, locked_committed}
use Rattle.tas_desk.proofs.locked_session.LockedSession.commit.Goals as goal

pub returns-in_err-receipt-clause-refusal : goal.returns-in_err-receipt-clause-refusal
returns-in_err-receipt-clause-refusal g c =
    let p = err_from_is_err_and c.from_residual.result c.from_residual.ensures.1 in
    rw (p.1, p.2)
    (commit_refused c.self.inside.session.journal _ c.self.inside.session.movie _ _ _ _ c.args.at (edits_of c.args.stroke) c.in_err-receipt.field-0.0 c.in_err-receipt.ensures.refusal c.show_to.ensures.history (ap (λ (l : LockedContent _). l.journal) c.self.view_is)
    (ap (λ (s : SeatContent _). s.number) c.seat.view_is) (ap (λ (s : SeatContent _). s.made) c.seat.view_is))

pub returns-in_err-receipt-clause-memory : goal.returns-in_err-receipt-clause-memory
returns-in_err-receipt-clause-memory g c =
    let p = err_from_is_err_and c.from_residual.result c.from_residual.ensures.1 in
    rw (p.1, p.2) c.in_err-receipt.ensures.memory

pub returns-clause-refusal : goal.returns-clause-refusal
returns-clause-refusal g c =
    none_refused c.self.inside.session.journal _ c.self.inside.session.movie _ _ _ _ c.args.at (edits_of c.args.stroke) c.in_ok-receipt.ensures.refusal c.show_to.ensures.history (ap (λ (l : LockedContent _). l.journal) c.self.view_is)
    (ap (λ (s : SeatContent _). s.number) c.seat.view_is) (ap (λ (s : SeatContent _). s.made) c.seat.view_is)

pub returns-clause-done : goal.returns-clause-done
returns-clause-done g c =
    locked_committed c.self.inside.session _ _ _ _ _ _ (edits_of c.args.stroke) c.in_ok-receipt.ensures.done c.show_to.ensures.history c.self.view_is
    (ap (λ (s : SeatContent _). s.number) c.seat.view_is) (ap (λ (s : SeatContent _). s.made) c.seat.view_is)

pub invariant_of-seat : goal.invariant_of-seat
invariant_of-seat g c = grind (arith, common_steps)

pub returns-clause-seat : goal.returns-clause-seat
returns-clause-seat g c = grind (arith, common_steps)

pub invariant_of-self-2 : goal.invariant_of-self-2
invariant_of-self-2 g c = grind (arith, common_steps)

pub overflow_add-seat : goal.overflow_add-seat
overflow_add-seat g c = grind (arith, common_steps)

pub invariant_of-seat-2 : goal.invariant_of-seat-2
invariant_of-seat-2 g c = grind (arith, common_steps)
