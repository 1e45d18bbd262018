use Rattle.std.proofs.lemmas.Grind.{common_steps}
use Rattle.std.proofs.Common.{◌≡◌, ap, sym, ◌∙◌, subst, All, length, arith}
use Rattle.tas_desk.specs.Locked.{LockedContent}
use Rattle.tas_desk.specs.Seats.{IsSettled}
use Rattle.tas_published.specs.History.{IsLegal}
use Rattle.tas_desk.proofs.SeatLemmas.{joins_as, settles, counts_all, none_left, joined_none}
use Rattle.tas_desk.proofs.locked_session.LockedSession.close.Goals as goal

pub loop-seat-preserved : goal.loop-seat-preserved
loop-seat-preserved g c =
    let e = c.join_seat.ensures in
    joins_as _ _ _ _ _ _ _ _ _ c.loop-seat.invariant c.in-Some.ensures.items e.parts e.amount e.begins e.fewer

pub returns-clause-seats : goal.returns-clause-seats
returns-clause-seats g c =
    let left = c.loop-seat.seats.items in
    let none : length left ≡ 0 = omega (arith, c.in_default.ensures.cases.0, c.loop-seat.seats.ok.0) in
    subst (λ (l : LockedContent _). All (IsSettled l.journal) c.args.seats.items) c.self.view_is
    (settles _ _ _ _ _ _ c.requires.whole c.loop-seat.invariant (none_left left none) (λ p. c.audit.ensures.whole p ∙ c.self.invariant.1))

pub returns-clause-count : goal.returns-clause-count
returns-clause-count g c =
    let left = c.loop-seat.seats.items in
    let none : length left ≡ 0 = omega (arith, c.in_default.ensures.cases.0, c.loop-seat.seats.ok.0) in
    ap (λ (l : LockedContent _). length l.journal) (sym c.self.view_is) ∙ counts_all _ _ _ _ _ _ c.requires.whole c.loop-seat.invariant (none_left left none) (λ p. c.audit.ensures.whole p ∙ c.self.invariant.1)

pub loop-seat-init : goal.loop-seat-init
loop-seat-init g c = joined_none _ _ _ _ c.self.invariant.2 c.self.invariant.3

pub returns-clause-legal : goal.returns-clause-legal
returns-clause-legal g c = subst (λ (l : LockedContent _). IsLegal l.journal) c.self.view_is c.close.ensures.legal

pub returns-clause-movie : goal.returns-clause-movie
returns-clause-movie g c = grind (arith, common_steps)

pub returns-clause-journal : goal.returns-clause-journal
returns-clause-journal g c = grind (arith, common_steps)

pub loop-seat-smaller : goal.loop-seat-smaller
loop-seat-smaller g c = grind (arith, common_steps)
