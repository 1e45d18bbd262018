-- How many states a zone gains from a batch at most.
use Rattle.std.proofs.Common.{◌≡◌, ℕ, zero, suc, ◌+◌, ◌/◌, ◌%◌, ◌<◌, ◌≤◌, max, min, true, eqb, List, [], ◌∷◌, length, take, Option, Some, None, refl, sym, ap, ◌∙◌, inl, inr, arith}
use Rattle.std.specs.Prelude.{◌⊎◌, is_some, nat_le}
use Rattle.std.proofs.lemmas.Bool.{cases_lt, cases_eq, leb-true, eqb-true, and_parts}
use Rattle.std.proofs.lemmas.List.{length-take}
use Rattle.vcs_inputs.specs.declared.input.Input.{Input}
use Rattle.vcs_machine.specs.declared.state.State.{State}
use Rattle.tas_movie.specs.Content.{MovieContent}
use Rattle.tas_green.specs.declared.savestate.Savestate.{Savestate}
use Rattle.tas_green.specs.Batch.{BatchContent}
use Rattle.tas_green.specs.Grid.{stride}
use Rattle.tas_green.specs.Green.{IsLawful}
use Rattle.tas_green.specs.Zone.{state_at, IsRising, where_true, is_on_grid}
use Rattle.tas_green.proofs.BoundLemmas.{next_row}
use Rattle.tas_green.proofs.GreenLemmas.{where_some, first_some}
use Rattle.tas_green.proofs.GridLemmas.{stride_rare, div_mono}
use Rattle.tas_green.proofs.ZoneLemmas.{at_same, at_other, at_later, above_none, rising_weaker}
use Rattle.tas_session.specs.declared.replies.Offered.{Offered}
use Rattle.tas_desk.specs.Work.{IsTaken}

-- no state of a rising list is at its lower end or before it
above : (f low : ℕ) (xs : List Savestate) (st : State) → IsRising low xs → state_at f xs ≡ Some st → low < f
above f low xs st rising there =
    elim (cases_lt low f) [
      | inl up ↦ up
      | inr down ↦ let none : state_at f xs ≡ None = above_none f low xs rising down in absurd (cc (there, none))
    ]

-- what is kept beside a state at another place
beside : (f : ℕ) (y : Savestate) (ys : List Savestate) → y.frame < f → is_some (state_at f (y ∷ ys)) ≡ true → is_some (state_at f ys) ≡ true
beside f y ys lt there = ap is_some (sym (at_other f y ys (λ same. omega arith))) ∙ there

-- a rising list of which each state is in another one, or at a multiple of s up to `front`, has at most as many more as there are such places
gained_few : (fuel : ℕ) (now before : List Savestate) (low s front : ℕ) → 0 < s → length now + length before ≤ fuel → IsRising low now → IsRising low before
    → ((f : ℕ) (st : State) → state_at f now ≡ Some st → (is_some (state_at f before) ≡ true) ⊎ ((f ≤ front) × (f % s ≡ 0)))
    → length now + low / s ≤ length before + max (front / s) (low / s)
gained_few fuel [] before low s front pos le rising old each = omega arith
gained_few zero (x ∷ xs) before low s front pos le rising old each = absurd (omega arith)
gained_few (suc fuel) (x ∷ xs) [] low s front pos le rising old each =
    let rest = gained_few fuel xs [] x.frame s front pos (omega arith) rising.1 tt (λ f st e. each f st (at_later f x xs st rising.1 e)) in
    elim (each x.frame x.state (at_same x.frame x xs refl)) [
      | inl there ↦ absurd (cc there)
      | inr on ↦ omega (arith, rest, next_row low x.frame s pos rising.0 on.1, div_mono x.frame front s pos on.0)
    ]
gained_few (suc fuel) (x ∷ xs) (y ∷ ys) low s front pos le rising old each =
    elim (cases_lt y.frame x.frame) [
      | inl passed ↦
          let rest = gained_few fuel (x ∷ xs) ys low s front pos (omega arith) rising (rising_weaker y.frame low ys (omega (arith, old.0)) old.1) (λ f st e.
          let up : y.frame < f = above f y.frame (x ∷ xs) st (passed, rising.1) e in
          elim (each f st e) [ inl there ↦ inl (beside f y ys up there) | inr on ↦ inr on ]) in
          omega (arith, rest)
      | inr not ↦ elim (cases_eq y.frame x.frame) [
        | inl same ↦
            let rest = gained_few fuel xs ys x.frame s front pos (omega arith) rising.1 (rising_weaker y.frame x.frame ys (omega arith) old.1) (λ f st e.
            let up : x.frame < f = above f x.frame xs st rising.1 e in
            elim (each f st (at_later f x xs st rising.1 e)) [ inl there ↦ inl (beside f y ys (omega (arith, up, same)) there) | inr on ↦ inr on ]) in
            omega (arith, rest, div_mono low x.frame s pos (omega (arith, rising.0)))
        | inr apart ↦
            let less : x.frame < y.frame = omega arith in
            let rest = gained_few fuel xs (y ∷ ys) x.frame s front pos (omega arith) rising.1 (less, old.1) (λ f st e. each f st (at_later f x xs st rising.1 e)) in
            elim (each x.frame x.state (at_same x.frame x xs refl)) [
              | inl there ↦
                  let none : state_at x.frame (y ∷ ys) ≡ None = at_other x.frame y ys (λ is. omega (arith, is)) ∙ above_none x.frame y.frame ys old.1 (omega arith) in
                  absurd (some_none there none)
              | inr on ↦ omega (arith, rest, next_row low x.frame s pos rising.0 on.1, div_mono x.frame front s pos on.0)
            ]
      ]
    ]
  where
    some_none : {A : Type 0} {o : Option A} → is_some o ≡ true → o ≡ None → ⊥
    some_none {o = Some x} there none = cc none
    some_none {o = None} there none = cc there

-- a lawful zone gains at most as many states as the movie's grid has places up to the common front
pub taken_few : (movie : MovieContent) (batch : BatchContent) (offered : Offered) → IsTaken movie batch offered → offered.kept ≤ offered.front / stride (length movie.inputs)
taken_few movie batch offered taken =
    let s = stride (length movie.inputs) in
    let pos : 0 < s = (stride_rare (length movie.inputs)).0 in
    let all = gained_few (length taken.now + length taken.before) taken.now taken.before 0 s offered.front pos (omega arith) taken.lawful_now.rising taken.lawful.rising (λ f st e.
    elim (first_some (state_at f taken.before) (where_true (is_on_grid s offered.front f) (state_at f batch.states)) st (sym (taken.takes.states f) ∙ e)) [
      | inl there ↦ inl (ap is_some there)
      | inr more ↦
          let on = and_parts (nat_le f offered.front) (eqb (f % s) 0) (where_some (is_on_grid s offered.front f) (state_at f batch.states) st more).0 in
          inr (leb-true f offered.front on.0, eqb-true (f % s) 0 on.1)
    ]) in
    omega (arith, all, taken.takes.gained, div_mono 0 offered.front s pos (omega arith))

-- the same of a batch of the first `near` inputs of another movie
pub taken_within : (movie : MovieContent) (batch : BatchContent) (offered : Offered) (near : ℕ) (others : List Input) → IsTaken movie batch offered → batch.inputs ≡ take (min near (length others)) others
    → offered.kept ≤ min near (length movie.inputs) / stride (length movie.inputs)
taken_within movie batch offered near others taken is =
    let s = stride (length movie.inputs) in
    let long : length batch.inputs ≡ min (min near (length others)) (length others) = ap (λ (l : List Input). length l) is ∙ length-take (min near (length others)) others in
    let up = div_mono offered.front (min near (length movie.inputs)) s (stride_rare (length movie.inputs)).0 (omega (arith, long, taken.takes.front.within_a, taken.takes.front.within_b)) in
    omega (arith, up, taken_few movie batch offered taken)
