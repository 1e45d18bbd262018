-- The states that `work` keeps in a draft.
use Rattle.std.proofs.Common.{◌≡◌, ℕ, ◌+◌, ◌-◌, ◌≤◌, ◌%◌, Bool, true, false, eqb, List, length, take, min, Option, Some, refl, ap, subst, ◌∙◌, arith}
use Rattle.std.specs.Prelude.{nat_le, ◌&&◌}
use Rattle.std.proofs.lemmas.Bool.{leb-true, and_parts}
use Rattle.std.proofs.lemmas.List.{take-take, length-take-le}
use Rattle.std.proofs.Math.Nat.{min-le_right}
use Rattle.vcs_inputs.specs.declared.input.Input.{Input}
use Rattle.vcs_machine.specs.declared.state.State.{State}
use Rattle.vcs_machine.specs.Machine.{after}
use Rattle.tas_movie.specs.Content.{MovieContent}
use Rattle.tas_movie.specs.Front.{IsCommonFront}
use Rattle.tas_green.specs.declared.savestate.Savestate.{Savestate}
use Rattle.tas_green.specs.Run.{state_after}
use Rattle.tas_green.specs.Grid.{stride}
use Rattle.tas_green.specs.Green.{IsLawful, IsReachedFrom}
use Rattle.tas_green.specs.Zone.{state_at, nearest, first_of, where_true, is_on_grid, is_passed}
use Rattle.tas_green.proofs.ViewLemmas.{nearest_le}
use Rattle.tas_desk.proofs.FillLemmas.{whole_front}
use Rattle.tas_seat.proofs.DraftLemmas.{played_over}

-- what is passed up to a place is on the grid up to it
passed_once : (s from end f : ℕ) (there : Option State) → where_true (is_on_grid s end f) (where_true (is_passed s from end f) there) ≡ where_true (is_passed s from end f) there
passed_once s from end f there = go (nat_le (from + 1) f) (is_on_grid s end f)
  where
    go : (a b : Bool) → where_true b (where_true (a && b) there) ≡ where_true (a && b) there
    go true true = refl
    go true false = refl
    go false true = refl
    go false false = refl

-- it is the same by the first inputs as by all
passed_same : (s from end f : ℕ) (some all : Option State) → (f ≤ end → some ≡ all) → where_true (is_passed s from end f) some ≡ where_true (is_passed s from end f) all
passed_same s from end f some all same = go (is_passed s from end f) refl
  where
    go : (b : Bool) → is_passed s from end f ≡ b → where_true b some ≡ where_true b all
    go true is = same (leb-true f end (and_parts (nat_le f end) (eqb (f % s) 0) (and_parts (nat_le (from + 1) f) (is_on_grid s end f) is).1).0)
    go false is = refl

-- a job of the movie's first frames was run, and its states were merged
pub filled : (movie : MovieContent) (k front : ℕ) (old now states : List Savestate) (cart : List ℕ) (inputs : List Input) (s start : ℕ) → IsLawful movie old → cart ≡ movie.cart → inputs ≡ take (min k (length movie.inputs)) movie.inputs
    → s ≡ stride (length movie.inputs) → start ≡ nearest (min k (length movie.inputs)) old → IsCommonFront inputs movie.inputs front
    → ((f : ℕ) → state_at f states ≡ where_true (is_passed s start (length inputs) f) (Some (after cart (take f inputs))))
    → ((f : ℕ) → state_at f now ≡ first_of (state_at f old) (where_true (is_on_grid (stride (length movie.inputs)) front f) (state_at f states)))
    → (ran : ℕ) × IsReachedFrom movie movie (min k (length movie.inputs)) old now 0 ran
filled movie k front old now states cart inputs s start lawful is-cart is is-stride is-start common batch merged = (end - from, played_over movie end end (end - from) old now lawful rise kept)
  where
    end : ℕ
    end = min k (length movie.inputs)

    from : ℕ
    from = nearest end old

    step : ℕ
    step = stride (length movie.inputs)

    le : end ≤ length movie.inputs
    le = min-le_right k (length movie.inputs)

    rise : end - from + from ≡ end
    rise = let low : from ≤ end = nearest_le end old in omega (arith, low)

    shown : ℕ → Option State
    shown f = Some (after movie.cart (take f inputs))

    long : length inputs ≡ end
    long = ap length is ∙ length-take-le end movie.inputs le

    last : front ≡ end
    last = whole_front movie.inputs end front le (subst (λ (l : List Input). IsCommonFront l movie.inputs front) is common)

    played : (f : ℕ) → state_at f states ≡ where_true (is_passed step from (length inputs) f) (shown f)
    played f = rw (is-cart, is-stride, is-start) at batch f

    gained : (f : ℕ) → where_true (is_on_grid step front f) (state_at f states) ≡ where_true (is_passed step from end f) (Some (state_after movie f))
    gained f =
        ap (where_true (is_on_grid step front f)) (played f)
        ∙ ap (λ (n : ℕ). where_true (is_on_grid step n f) (where_true (is_passed step from (length inputs) f) (shown f))) last
        ∙ ap (λ (n : ℕ). where_true (is_on_grid step end f) (where_true (is_passed step from n f) (shown f))) long
        ∙ passed_once step from end f (shown f)
        ∙ passed_same step from end f (shown f) (Some (state_after movie f)) (λ within. ap (λ (l : List Input). Some (after movie.cart l)) (ap (take f) is ∙ take-take f end movie.inputs within))

    kept : (f : ℕ) → state_at f now ≡ first_of (state_at f old) (where_true (is_passed step from end f) (Some (state_after movie f)))
    kept f = merged f ∙ ap (first_of (state_at f old)) (gained f)
