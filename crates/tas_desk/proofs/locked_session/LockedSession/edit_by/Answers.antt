use Rattle.std.proofs.lemmas.Grind.{common_steps}
use Rattle.std.proofs.Common.{◌≡◌, ap, rules, arith}
use Rattle.std.specs.Prelude.{MatchResult, None}
use Rattle.tas_session.specs.Session.{refusal_at, IsEditError}
use Rattle.std.proofs.lemmas.Result.{err_from_is_err_and}
use Rattle.tas_desk.specs.Locked.{LockedContent}
use Rattle.tas_desk.specs.Seats.{SeatContent}
use Rattle.tas_desk.proofs.PlanLemmas.{planned_as, planned_answer}
use Rattle.tas_desk.proofs.locked_session.LockedSession.edit_by.Goals as goal

pub returns-in_err-edit-clause-refusal : goal.returns-in_err-edit-clause-refusal
returns-in_err-edit-clause-refusal g c =
    let p = err_from_is_err_and c.from_residual.result c.from_residual.ensures.1 in
    rw (p.1, p.2)
    (planned_as c.self.inside.session.journal _ _ _ _ _ (λ m. g.P.Plan.refusal_in c.args.plan.now m) c.in_err-edit.field-0.0 c.in_err-edit.ensures.refusal (ap (λ (l : LockedContent _). l.journal) c.self.view_is)
    (ap (λ (s : SeatContent _). s.number) c.seat.view_is) (ap (λ (s : SeatContent _). s.made) c.seat.view_is))

pub returns-clause-refusal : goal.returns-clause-refusal
returns-clause-refusal g c =
    let e = c.in_ok-edit.ensures in
    let h : MatchResult c.edit.result (λ _. refusal_at c.self.inside.session.journal c.seat.inside.number c.seat.inside.made c.in_ok-edit.edit ≡ None) (IsEditError (refusal_at c.self.inside.session.journal c.seat.inside.number c.seat.inside.made c.in_ok-edit.edit)) = search rules in
    planned_answer c.self.inside.session.journal c.args.self.now.journal c.seat.inside.number c.seat.inside.made c.args.seat.now.number c.args.seat.now.made (λ m. g.P.Plan.refusal_in c.args.plan.now m) (λ m. g.P.Plan.edit_in c.args.plan.now m) c.in_ok-edit.edit c.edit.result e.refusal e.allowed e.edit h (ap (λ (l : LockedContent _). l.journal) c.self.view_is)
    (ap (λ (s : SeatContent _). s.number) c.seat.view_is) (ap (λ (s : SeatContent _). s.made) c.seat.view_is)

pub returns-clause-allowed : goal.returns-clause-allowed
returns-clause-allowed g c = grind (arith, common_steps)

pub invariant_of-seat : goal.invariant_of-seat
invariant_of-seat g c = grind (arith, common_steps)

pub returns-clause-done : goal.returns-clause-done
returns-clause-done g c = grind (arith, common_steps)

pub returns-clause-begins : goal.returns-clause-begins
returns-clause-begins g c = grind (arith, common_steps)

pub invariant_of-seat-2 : goal.invariant_of-seat-2
invariant_of-seat-2 g c = grind (arith, common_steps)
