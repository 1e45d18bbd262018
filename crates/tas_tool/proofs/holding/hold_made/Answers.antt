use Rattle.std.proofs.Common.{List, sym, ap, subst, ◌∙◌}
use Rattle.tas_desk.specs.Seats.{SeatContent}
use Rattle.tas_tool.specs.Inside.Holding.{AreNumbered, IsHeldIn}
use Rattle.tas_tool.proofs.HoldingLemmas.{held_as}
use Rattle.tas_tool.proofs.holding.hold_made.Goals as goal

pub hold_callers-requires-clause-numbers : goal.hold_callers-requires-clause-numbers
hold_callers-requires-clause-numbers g c κs within = subst (λ (l : List (SeatContent _)). AreNumbered l) (sym c.pair_up.ensures.seats) c.requires.numbers

pub returns-clause-history : goal.returns-clause-history
returns-clause-history g c =
    held_as (λ p q start e. IsHeldIn g.D.Door.facts _ p q start e) c.args.doors.now.items _ c.hold_callers.new.doors.items c.args.seats.items _ _ _ (c.pair_up.ensures.doors ∙ ap (λ v. v.items) c.replace.ensures.value) c.pair_up.ensures.seats c.hold_callers.ensures.history
