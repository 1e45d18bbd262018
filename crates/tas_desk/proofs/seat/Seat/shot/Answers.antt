use Rattle.std.proofs.lemmas.Grind.{common_steps}
use Rattle.std.proofs.Common.{ap, subst, refl, arith}
use Rattle.tas_desk.specs.Seats.{SeatContent}
use Rattle.tas_desk.specs.Zones.{ZoneContent, CutsWindow, IsPlayed, IsShort}
use Rattle.tas_desk.proofs.CutLemmas.{short_shot}
use Rattle.tas_desk.proofs.ZoneLemmas.{seated_on, seated_at, brought_to, seen_more}
use Rattle.tas_session.proofs.ShotLemmas.{shot_at, so_many, was_played}
use Rattle.tas_desk.proofs.ZoneShotLemmas.{zone_drawn}
use Rattle.tas_desk.proofs.seat.Seat.shot.Goals as goal

pub returns-clause-zone : goal.returns-clause-zone
returns-clause-zone g c =
    let e = c.shot-played.ensures in
    let made = brought_to c.version.result.now c.self.inside.zone c.shot-played.new.self c.in_ok-at.copied c.copy.new.self.seen c.version.ensures c.in_ok-at.ensures.3 e.made_for e.made in
    zone_drawn (IsPlayed c.args.self.now.zone c.shot-played.new.self c.copy.new.self.seen c.args.k) c.args.self.now _ _ _ c.shot-played.result.ran _ c.shot-played.result.end _ c.shown.ensures.shot c.shown.ensures.halted
    (subst (λ (z : ZoneContent _). IsPlayed z c.shot-played.new.self c.copy.new.self.seen c.args.k c.shot-played.result.ran) (ap (λ (s : SeatContent _). s.zone) c.self.view_is) (record { made = made; shot = e.kept }))

pub returns-clause-reply : goal.returns-clause-reply
returns-clause-reply g c =
    let e = c.shot-played.ensures in
    let made = brought_to c.version.result.now c.self.inside.zone c.shot-played.new.self c.in_ok-at.copied c.copy.new.self.seen c.version.ensures c.in_ok-at.ensures.3 e.made_for e.made in
    shot_at c.copy.new.self.seen c.shot-played.new.self.movie _ _ c.shot-played.result.ran _ c.shot-played.result.end _ made.movie c.in_ok-at.ensures.1 c.in_ok-at.ensures.2 e.answer e.picture c.shown.ensures.shot c.shown.ensures.halted

pub returns-clause-short : goal.returns-clause-short
returns-clause-short g c =
    so_many _ _ c.shot-played.result.ran _ c.shot-played.result.end _ (IsShort c.args.self.now.zone c.shot-played.new.self c.args.k) c.shown.ensures.shot c.shown.ensures.halted
    (subst (λ (z : ZoneContent _). IsShort z c.shot-played.new.self c.args.k c.shot-played.result.ran) (ap (λ (s : SeatContent _). s.zone) c.self.view_is)
    (short_shot c.self.inside.zone c.shot-played.new.self c.args.k c.shot-played.result.ran c.shot-played.ensures.kept))

pub invariant_of-self-2 : goal.invariant_of-self-2
invariant_of-self-2 g c =
    seated_at _ _ _ _ _ _ _ c.version.result.now c.self.inside.zone c.shot-played.new.self c.in_ok-at.copied c.copy.new.self.seen c.self.invariant c.in_ok-at.ensures.0 c.version.ensures c.in_ok-at.ensures.3 c.shot-played.ensures.made_for

pub returns-clause-window : goal.returns-clause-window
returns-clause-window g c =
    was_played c.args.k _ c.shot-played.result.ran _ c.shot-played.result.end _ _ _ c.shown.ensures.shot c.shown.ensures.halted
    (subst (λ (z : ZoneContent _). CutsWindow z c.shot-played.new.self) (ap (λ (s : SeatContent _). s.zone) c.self.view_is) c.shot-played.ensures.cut)

pub invariant_of-self-in_default : goal.invariant_of-self-in_default
invariant_of-self-in_default g c = seated_on _ _ _ _ _ _ _ c.self.inside.zone c.self.inside.zone c.self.invariant c.in_ok-at.ensures.0 refl

pub returns-clause-seat : goal.returns-clause-seat
returns-clause-seat g c = seen_more c.self.inside.reader c.copy.new.self _ _ _ c.self.inside.zone c.shot-played.new.self c.self.view_is c.in_ok-at.ensures.0

pub returns-in_default-clause-seat : goal.returns-in_default-clause-seat
returns-in_default-clause-seat g c = grind (arith, common_steps)

pub returns-in_default-clause-zone : goal.returns-in_default-clause-zone
returns-in_default-clause-zone g c = grind (arith, common_steps)

pub invariant_of-self : goal.invariant_of-self
invariant_of-self g c = grind (arith, common_steps)

pub returns-in_err-at-clause-seat : goal.returns-in_err-at-clause-seat
returns-in_err-at-clause-seat g c = grind (arith, common_steps)

pub returns-in_default-clause-window : goal.returns-in_default-clause-window
returns-in_default-clause-window g c = grind (arith, common_steps)
