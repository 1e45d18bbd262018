use Rattle.std.proofs.lemmas.Grind.{common_steps}
use Rattle.std.proofs.Common.{subst, arith}
use mathlib.Core.List.{IsPrefix}
use Rattle.tas_desk.specs.Locked.{LockedContent}
use Rattle.tas_desk.specs.Seats.{SeatContent}
use Rattle.tas_desk.proofs.locked_session.LockedSession.history.Goals as goal

pub returns-clause-begins : goal.returns-clause-begins
returns-clause-begins g c =
    subst (λ (l : LockedContent _). IsPrefix c.args.seat.now.front l.journal) c.self.view_is
    (subst (λ (s : SeatContent _). IsPrefix s.front c.self.inside.session.journal) c.seat.view_is c.show_to.ensures.begins)

pub returns-clause-at : goal.returns-clause-at
returns-clause-at g c = grind (arith, common_steps)

pub returns-clause-seat : goal.returns-clause-seat
returns-clause-seat g c = grind (arith, common_steps)

pub returns-clause-entries : goal.returns-clause-entries
returns-clause-entries g c = grind (arith, common_steps)

pub invariant_of-seat : goal.invariant_of-seat
invariant_of-seat g c = grind (arith, common_steps)

pub invariant_of-seat-2 : goal.invariant_of-seat-2
invariant_of-seat-2 g c = grind (arith, common_steps)
