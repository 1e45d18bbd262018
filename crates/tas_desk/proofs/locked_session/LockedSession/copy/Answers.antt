use Rattle.std.proofs.Common.{arith}
use Rattle.std.proofs.lemmas.Grind.{common_steps}
use Rattle.tas_desk.proofs.locked_session.LockedSession.copy.Goals as goal

pub invariant_of-seat-2 : goal.invariant_of-seat-2
invariant_of-seat-2 g c = grind (arith, common_steps)

pub invariant_of-seat : goal.invariant_of-seat
invariant_of-seat g c = grind (arith, common_steps)

pub returns-clause-begins : goal.returns-clause-begins
returns-clause-begins g c = grind (arith, common_steps)

pub returns-clause-reply : goal.returns-clause-reply
returns-clause-reply g c = grind (arith, common_steps)

pub returns-then-not-is_in_range-clause-begins : goal.returns-then-not-is_in_range-clause-begins
returns-then-not-is_in_range-clause-begins g c = grind (arith, common_steps)

pub returns-clause-seat : goal.returns-clause-seat
returns-clause-seat g c = grind (arith, common_steps)

pub returns-then-not-is_in_range-clause-seat : goal.returns-then-not-is_in_range-clause-seat
returns-then-not-is_in_range-clause-seat g c = grind (arith, common_steps)

pub returns-then-not-is_in_range-clause-reply : goal.returns-then-not-is_in_range-clause-reply
returns-then-not-is_in_range-clause-reply g c = grind (arith, common_steps)
