use Rattle.std.proofs.Common.{vec_len}
use Rattle.tas_desk.proofs.SeatLemmas.{Joined}
use Rattle.tas_desk.proofs.locked_session.LockedSession.close.Given as goal

abbrev pub invariant-loop-seat : goal.invariant-loop-seat
invariant-loop-seat g l = Joined l.session.journal l.initial.seats.items l.seats.items l.all.parts l.all.amount

abbrev pub decreases-loop-seat : goal.decreases-loop-seat
decreases-loop-seat g l = vec_len l.seats
