use Rattle.std.proofs.lemmas.Grind.{common_steps}
use Rattle.std.proofs.Common.{◌≡◌, ◌+◌, ◌<◌, ◌∷◌, ℕ, [], List, length, ap, sym, ◌∙◌, subst, arith, length-append}
use Rattle.std.specs.Prelude.{slice_get, Some}
use Rattle.tas_desk.specs.Seats.{SeatContent, seat_of}
use Rattle.tas_desk.specs.Zones.{blank_zone}
use Rattle.tas_desk.proofs.SeatLemmas.{fresh_more}
use Rattle.tas_desk.proofs.seating.new_seats.Goals as goal

pub loop-number-preserved : goal.loop-number-preserved
loop-number-preserved g c =
    let i = c.loop-number.invariant in
    let e = c.in_ok-seat.ensures in
    let items = c.in_default.ensures.items in record {
      session = e.session ∙ i.session;
      parts = (let a = e.rest.0 in let b = i.parts in omega (arith, a, b));
      amount = e.rest.1;
      seats = ap length items ∙ (let a = length-append c.loop-number.seats.items (c.in_ok-seat.seat ∷ []) in let b = i.seats in omega (arith, a, b));
      fresh = subst (λ (xs : List (SeatContent _)). (k : ℕ) → k < c.loop-number.number + 1 → slice_get xs k ≡ Some (seat_of k 0 [] (blank_zone g.N.Name.registry))) (sym items)
          (fresh_more (blank_zone g.N.Name.registry) c.loop-number.seats.items c.in_ok-seat.seat c.loop-number.number i.seats i.fresh e.seat);
    }

pub returns-in-Err-clause-session : goal.returns-in-Err-clause-session
returns-in-Err-clause-session g c = grind (arith, common_steps)

pub loop-number-init : goal.loop-number-init
loop-number-init g c = grind (arith, common_steps)
