use Rattle.std.proofs.lemmas.Grind.{common_steps}
use Rattle.std.proofs.Common.{ap, subst, arith}
use Rattle.tas_desk.specs.Seats.{SeatContent}
use Rattle.tas_desk.specs.States.{IsReached}
use Rattle.tas_desk.specs.Zones.{ZoneContent}
use Rattle.tas_desk.proofs.ZoneLemmas.{brought_to, seated_at, seen_more}
use Rattle.tas_desk.proofs.seat.Seat.state_for.Goals as goal

pub invariant_of-self-2 : goal.invariant_of-self-2
invariant_of-self-2 g c =
    seated_at _ _ _ _ _ _ _ c.version.result.now c.self.inside.zone c.reach-reached.new.self c.in_ok-at.copied c.copy_of.new.self.seen c.self.invariant c.in_ok-at.ensures.0 c.version.ensures c.in_ok-at.ensures.3 c.reach-reached.ensures.made_for

pub returns-clause-zone : goal.returns-clause-zone
returns-clause-zone g c =
    let e = c.reach-reached.ensures in
    let made = brought_to c.version.result.now c.self.inside.zone c.reach-reached.new.self c.in_ok-at.copied c.copy_of.new.self.seen c.version.ensures c.in_ok-at.ensures.3 e.made_for e.made in
    subst (λ (z : ZoneContent _). IsReached z c.reach-reached.new.self c.copy_of.new.self.seen c.args.from c.reach-reached.result.ran) (ap (λ (s : SeatContent _). s.zone) c.self.view_is) (record { made = made; reach = e.kept })

pub returns-clause-seat : goal.returns-clause-seat
returns-clause-seat g c = seen_more c.self.inside.reader c.copy_of.new.self _ _ _ c.self.inside.zone c.reach-reached.new.self c.self.view_is c.in_ok-at.ensures.0

pub returns-clause-reply : goal.returns-clause-reply
returns-clause-reply g c = grind (arith, common_steps)

pub invariant_of-self : goal.invariant_of-self
invariant_of-self g c = grind (arith, common_steps)

pub returns-then-from-to-clause-forward : goal.returns-then-from-to-clause-forward
returns-then-from-to-clause-forward g c = grind (arith, common_steps)

pub returns-then-from-to-clause-seat : goal.returns-then-from-to-clause-seat
returns-then-from-to-clause-seat g c = grind (arith, common_steps)

pub returns-in_err-at-clause-seat : goal.returns-in_err-at-clause-seat
returns-in_err-at-clause-seat g c = grind (arith, common_steps)

pub invariant_of-self-in_err-at : goal.invariant_of-self-in_err-at
invariant_of-self-in_err-at g c = grind (arith, common_steps)

pub returns-then-from-to-clause-zone : goal.returns-then-from-to-clause-zone
returns-then-from-to-clause-zone g c = grind (arith, common_steps)
