use Rattle.std.proofs.lemmas.Grind.{common_steps}
use Rattle.std.proofs.Common.{ap, subst, refl, arith}
use Rattle.tas_desk.specs.Seats.{SeatContent}
use Rattle.tas_desk.specs.Zones.{ZoneContent, IsShort, IsViewed}
use Rattle.tas_desk.proofs.CutLemmas.{short_view}
use Rattle.tas_desk.proofs.ZoneLemmas.{seated_on, seated_at, brought_to, seen_more}
use Rattle.tas_session.proofs.ShotLemmas.{shot_at, so_many, where_shown}
use Rattle.tas_desk.proofs.ZoneShotLemmas.{zone_drawn}
use Rattle.tas_desk.proofs.seat.Seat.picture.Goals as goal

pub returns-clause-zone : goal.returns-clause-zone
returns-clause-zone g c =
    let e = c.picture-viewed.ensures in
    let made = brought_to c.version.result.now c.self.inside.zone c.picture-viewed.new.self c.in_ok-at.copied c.copy.new.self.seen c.version.ensures c.in_ok-at.ensures.3 e.made_for e.made in
    zone_drawn (IsViewed c.args.self.now.zone c.picture-viewed.new.self c.copy.new.self.seen c.args.k) c.args.self.now _ _ _ c.picture-viewed.result.ran _ c.picture-viewed.result.end _ c.shown.ensures.shot c.shown.ensures.halted
    (subst (λ (z : ZoneContent _). IsViewed z c.picture-viewed.new.self c.copy.new.self.seen c.args.k c.picture-viewed.result.ran) (ap (λ (s : SeatContent _). s.zone) c.self.view_is) (record { made = made; view = e.kept }))

pub returns-clause-reply : goal.returns-clause-reply
returns-clause-reply g c =
    let e = c.picture-viewed.ensures in
    let made = brought_to c.version.result.now c.self.inside.zone c.picture-viewed.new.self c.in_ok-at.copied c.copy.new.self.seen c.version.ensures c.in_ok-at.ensures.3 e.made_for e.made in
    shot_at c.copy.new.self.seen c.picture-viewed.new.self.movie _ _ c.picture-viewed.result.ran _ c.picture-viewed.result.end _ made.movie c.in_ok-at.ensures.1 c.in_ok-at.ensures.2 e.answer e.picture c.shown.ensures.shot c.shown.ensures.halted

pub returns-clause-short : goal.returns-clause-short
returns-clause-short g c =
    so_many _ _ c.picture-viewed.result.ran _ c.picture-viewed.result.end _ (IsShort c.args.self.now.zone c.picture-viewed.new.self c.args.k) c.shown.ensures.shot c.shown.ensures.halted
    (subst (λ (z : ZoneContent _). IsShort z c.picture-viewed.new.self c.args.k c.picture-viewed.result.ran) (ap (λ (s : SeatContent _). s.zone) c.self.view_is)
    (short_view c.self.inside.zone c.picture-viewed.new.self c.args.k c.picture-viewed.result.ran c.picture-viewed.ensures.kept))

pub returns-clause-forward : goal.returns-clause-forward
returns-clause-forward g c = where_shown c.args.k _ c.picture-viewed.result.ran _ c.picture-viewed.result.end _ _ c.shown.ensures.shot c.shown.ensures.halted c.picture-viewed.ensures.forward

pub invariant_of-self-2 : goal.invariant_of-self-2
invariant_of-self-2 g c =
    seated_at _ _ _ _ _ _ _ c.version.result.now c.self.inside.zone c.picture-viewed.new.self c.in_ok-at.copied c.copy.new.self.seen c.self.invariant c.in_ok-at.ensures.0 c.version.ensures c.in_ok-at.ensures.3 c.picture-viewed.ensures.made_for

pub invariant_of-self-in_default : goal.invariant_of-self-in_default
invariant_of-self-in_default g c = seated_on _ _ _ _ _ _ _ c.self.inside.zone c.self.inside.zone c.self.invariant c.in_ok-at.ensures.0 refl

pub returns-clause-seat : goal.returns-clause-seat
returns-clause-seat g c = seen_more c.self.inside.reader c.copy.new.self _ _ _ c.self.inside.zone c.picture-viewed.new.self c.self.view_is c.in_ok-at.ensures.0

pub invariant_of-self : goal.invariant_of-self
invariant_of-self g c = grind (arith, common_steps)

pub returns-in_default-clause-seat : goal.returns-in_default-clause-seat
returns-in_default-clause-seat g c = grind (arith, common_steps)

pub returns-in_err-at-clause-seat : goal.returns-in_err-at-clause-seat
returns-in_err-at-clause-seat g c = grind (arith, common_steps)

pub returns-in_default-clause-zone : goal.returns-in_default-clause-zone
returns-in_default-clause-zone g c = grind (arith, common_steps)
