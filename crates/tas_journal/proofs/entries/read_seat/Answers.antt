use Rattle.std.proofs.Common.{arith}
use Rattle.tas_journal.proofs.ReadingLemmas.{past_seats}
use Rattle.tas_journal.proofs.entries.read_seat.Goals as goal

pub returns-in_err-seat-clause-none : goal.returns-in_err-seat-clause-none
returns-in_err-seat-clause-none c = rw c.from_residual.ensures (λ n small is. c.in_err-seat.ensures.none n (omega (arith, small)) is)

pub returns-then-seat-gt-MAX_SEAT-clause-none : goal.returns-then-seat-gt-MAX_SEAT-clause-none
returns-then-seat-gt-MAX_SEAT-clause-none c = λ n small is. past_seats n c.in_ok-seat.seat c.args.word.now c.in_ok-seat.ensures.some (omega arith) c.if-seat-gt-MAX_SEAT.true small is
