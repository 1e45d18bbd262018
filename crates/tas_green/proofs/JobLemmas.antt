-- What a job takes with it, and the states that it makes.
use Rattle.std.proofs.Common.{◌≡◌, ℕ, ◌+◌, ◌/◌, ◌%◌, ◌<◌, ◌≤◌, eqb, true, List, [], length, take, Option, Some, refl, sym, ap, ◌∙◌, arith}
use Rattle.std.specs.Prelude.{nat_le}
use Rattle.std.proofs.lemmas.Bool.{leb-true, and_parts}
use Rattle.std.proofs.lemmas.List.{take-take, length-take-le}
use Rattle.vcs_inputs.specs.declared.input.Input.{Input}
use Rattle.vcs_machine.specs.declared.state.State.{State}
use Rattle.vcs_machine.specs.Machine.{after}
use Rattle.tas_movie.specs.Content.{MovieContent}
use Rattle.tas_green.specs.declared.savestate.Savestate.{Savestate}
use Rattle.tas_green.specs.Run.{state_after}
use Rattle.tas_green.specs.Zone.{state_at, IsRising, first_of, where_true, is_on_grid, is_passed}
use Rattle.tas_green.specs.Batch.{AreStatesOf, IsReady}
use Rattle.tas_green.proofs.GreenLemmas.{where_some, some_is}

-- the cartridge, the first inputs and one of the states among them can be run
pub taken_ready : (movie : MovieContent) (cart : List ℕ) (inputs : List Input) (step : ℕ) (start : Savestate) (states : List Savestate) (room end : ℕ)
    → cart ≡ movie.cart → inputs ≡ take end movie.inputs → end ≤ length movie.inputs → 0 < step → start.frame ≤ end → start.state ≡ state_after movie start.frame
    → states ≡ [] → end / step ≤ room + start.frame / step → IsReady cart inputs step start states room
taken_ready movie cart inputs step start states room end is-cart is-inputs within pos le state none fits =
    let long : length inputs ≡ end = ap length is-inputs ∙ length-take-le end movie.inputs within in
    record {
      positive = pos;
      within = omega (arith, long, le);
      state = state ∙ ap (after movie.cart) (sym (take-take start.frame end movie.inputs le)) ∙ rw (is-cart, is-inputs) refl;
      none = none;
      fits = rw long fits;
    }

-- the states that were passed are those of the inputs
pub ran_right : (cart : List ℕ) (inputs : List Input) (step from : ℕ) (old now : List Savestate) → old ≡ [] → IsRising 0 now
    → ((f : ℕ) → state_at f now ≡ first_of (state_at f old) (where_true (is_passed step from (length inputs) f) (Some (after cart (take f inputs))))) → AreStatesOf cart inputs now
ran_right cart inputs step from old now none rising is = record {
  rising = rising;
  within = λ f s e. leb-true f (length inputs) (parts f s e).0;
  each = λ f s e. sym (some_is (after cart (take f inputs)) s (kept f s e).1);
}
  where
    kept : (f : ℕ) (s : State) → state_at f now ≡ Some s → (is_passed step from (length inputs) f ≡ true) × ((let o : Option State = Some (after cart (take f inputs)) in o) ≡ Some s)
    kept f s e =
        let passed : Option State = where_true (is_passed step from (length inputs) f) (Some (after cart (take f inputs))) in
        where_some (is_passed step from (length inputs) f) (Some (after cart (take f inputs))) s (sym (is f ∙ ap (λ (l : List Savestate). first_of (state_at f l) passed) none) ∙ e)

    parts : (f : ℕ) (s : State) → state_at f now ≡ Some s → (nat_le f (length inputs) ≡ true) × (eqb (f % step) 0 ≡ true)
    parts f s e =
        let wanted = and_parts (nat_le (from + 1) f) (is_on_grid step (length inputs) f) (kept f s e).0 in
        and_parts (nat_le f (length inputs)) (eqb (f % step) 0) wanted.1
