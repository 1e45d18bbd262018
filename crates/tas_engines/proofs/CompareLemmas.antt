-- Where two movies begin to differ.
use Rattle.std.proofs.Common.{◌≡◌, ◌≢◌, ℕ, zero, suc, ◌+◌, ◌<◌, ◌≤◌, Bool, true, false, List, [], ◌∷◌, length, take, get_or, Option, Some, None, refl, sym, ap, subst, ◌∙◌, inl, inr, arith}
use Rattle.std.specs.Prelude.{min, max}
use Rattle.std.proofs.lemmas.Bool.{cases_eq, cases_lt, lt-ltb, le-ltb}
use Rattle.std.proofs.lemmas.List.{get_or-take}
use Rattle.std.proofs.lemmas.Option.{slice_get-get_or, slice_get_past}
use Rattle.vcs_tia.specs.Image.{ppm_bytes}
use Rattle.vcs_inputs.specs.declared.input.Input.{Input}
use Rattle.vcs_machine.specs.declared.state.State.{State}
use Rattle.vcs_inputs.specs.Input.{no_input}
use Rattle.vcs_machine.specs.Machine.{after, frame_picture}
use Rattle.tas_movie.specs.Content.{MovieContent}
use Rattle.tas_green.specs.Run.{state_after, picture_of}
use Rattle.tas_movie.specs.Front.{IsCommonFront}
use Rattle.tas_engines.specs.Comparing.{where_played, input_at, unless_halted, first_of, IsFirstDifference, IsFirstUpTo, AreFirstUpTo}

-- ---- what a movie has at a frame

pub played : {A : Type 0} (movie : MovieContent) (k : ℕ) (value : A) → k < length movie.inputs → where_played movie k value ≡ Some value
played {A = A} movie k value lt = rw (lt-ltb k (length movie.inputs) lt) refl

pub not_played : {A : Type 0} (movie : MovieContent) (k : ℕ) (value : A) → length movie.inputs ≤ k → where_played movie k value ≡ None
not_played {A = A} movie k value le = rw (le-ltb k (length movie.inputs) le) refl

some_same : {A : Type 0} (x y : A) → Some x ≡ Some y → x ≡ y
some_same {A = A} x y e = cc

some_no_none : {A : Type 0} (x : A) → Some x ≡ None → ⊥
some_no_none {A = A} x e = cc

pub same_there : {A : Type 0} (old new : MovieContent) (k : ℕ) (x y : A) → k < length old.inputs → k < length new.inputs → x ≡ y → where_played old k x ≡ where_played new k y
same_there {A = A} old new k x y lt less same = played old k x lt ∙ ap Some same ∙ sym (played new k y less)

pub other_there : {A : Type 0} (old new : MovieContent) (k : ℕ) (x y : A) → k < length old.inputs → k < length new.inputs → x ≢ y → where_played old k x ≢ where_played new k y
other_there {A = A} old new k x y lt less other = λ e. other (some_same x y (sym (played old k x lt) ∙ e ∙ played new k y less))

-- ---- first places

pub up_to_more : {A : Type 0} (old new : ℕ → A) (n : ℕ) (found : Option ℕ) (is_same : Bool) → IsFirstUpTo old new n found → (is_same ≡ true → old n ≡ new n) → (is_same ≡ false → old n ≢ new n)
    → IsFirstUpTo old new (n + 1) (first_of found is_same n)
up_to_more {A = A} old new n (Some place) is_same so_far if_same if_other = so_far
up_to_more {A = A} old new n None true so_far if_same if_other = λ j lt.
    elim (cases_eq j n) [
      | inl same ↦ subst (λ (i : ℕ). old i ≡ new i) (sym same) (if_same refl)
      | inr apart ↦ so_far j (omega (arith, lt, apart))
    ]
up_to_more {A = A} old new n None false so_far if_same if_other = (if_other refl, so_far)

-- a place that is known is right however far one looks
pub known : {A : Type 0} (old new : ℕ → A) (n m : ℕ) (found : Option ℕ) → found ≢ None → IsFirstUpTo old new n found → IsFirstUpTo old new m found
known {A = A} old new n m (Some place) some so_far = so_far
known {A = A} old new n m None some so_far = absurd (some refl)

-- past the shorter movie's end nothing is to find but the end itself
pub at_end : {A : Type 0} (old new : MovieContent) (x y : ℕ → A) (end : ℕ) (found : Option ℕ) (is_same : Bool) → end ≡ min (length old.inputs) (length new.inputs)
    → (is_same ≡ true → length old.inputs ≡ length new.inputs) → (is_same ≡ false → length old.inputs ≢ length new.inputs)
    → IsFirstUpTo (λ k. where_played old k (x k)) (λ k. where_played new k (y k)) end found → IsFirstDifference (λ k. where_played old k (x k)) (λ k. where_played new k (y k)) (first_of found is_same end)
at_end {A = A} old new x y end (Some place) is_same is if_same if_other so_far = so_far
at_end {A = A} old new x y end None true is if_same if_other so_far = λ j.
    elim (cases_lt j end) [
      | inl lt ↦ so_far j lt
      | inr le ↦ not_played old j (x j) (omega (arith, is, if_same refl, le)) ∙ sym (not_played new j (y j) (omega (arith, is, if_same refl, le)))
    ]
at_end {A = A} old new x y end None false is if_same if_other so_far = (apart, so_far)
  where
    apart : where_played old end (x end) ≢ where_played new end (y end)
    apart = λ e.
        elim (cases_lt (length old.inputs) (length new.inputs)) [
          | inl shorter ↦ some_no_none (y end) (sym (played new end (y end) (omega (arith, is, shorter))) ∙ sym e ∙ not_played old end (x end) (omega (arith, is, shorter)))
          | inr longer ↦ some_no_none (x end) (sym (played old end (x end) (omega (arith, is, longer, if_other refl))) ∙ e ∙ not_played new end (y end) (omega (arith, is, longer)))
        ]

-- ---- the common front

take_below : (n j : ℕ) (xs : List Input) → j ≤ n → take j (take n xs) ≡ take j xs
take_below zero zero xs le = refl
take_below zero (suc j) xs le = absurd (omega (arith, le))
take_below (suc n) j [] le = refl
take_below (suc n) zero (x ∷ xs) le = refl
take_below (suc n) (suc j) (x ∷ xs) le = ap (λ (l : List Input). x ∷ l) (take_below n j xs (omega (arith, le)))

module _ (old new : MovieContent) (front : ℕ) (carts : new.cart ≡ old.cart) (common : IsCommonFront old.inputs new.inputs front) where
  pub shared_state : (j : ℕ) → j ≤ front → state_after old j ≡ state_after new j
  shared_state j le =
      ap (λ (cart : List ℕ). after cart (take j old.inputs)) (sym carts)
      ∙ ap (after new.cart) (sym (take_below front j old.inputs le) ∙ ap (take j) common.same ∙ take_below front j new.inputs le)

  shared_input : (j : ℕ) (d : Input) → j < front → get_or old.inputs j d ≡ get_or new.inputs j d
  shared_input j d lt = sym (get_or-take front old.inputs j d lt) ∙ ap (λ (l : List Input). get_or l j d) common.same ∙ get_or-take front new.inputs j d lt

  shared_picture : (j : ℕ) → j < front → picture_of old j ≡ picture_of new j
  shared_picture j lt =
      ap (λ (cart : List ℕ). frame_picture cart (state_after old j) (get_or old.inputs j no_input)) (sym carts)
      ∙ ap (λ (s : State). frame_picture new.cart s (get_or old.inputs j no_input)) (shared_state j (omega (arith, lt)))
      ∙ ap (frame_picture new.cart (state_after new j)) (shared_input j no_input lt)

  -- up to its end nothing differs
  pub nothing_before : AreFirstUpTo old new front (record { ram = None; picture = None })
  nothing_before = record {
    ram = λ j lt. same_there old new j _ _ (omega (arith, lt, common.within_a)) (omega (arith, lt, common.within_b)) (ap (λ (s : State). s.riot.ram) (shared_state (j + 1) (omega (arith, lt))));
    picture = λ j lt. same_there old new j _ _ (omega (arith, lt, common.within_a)) (omega (arith, lt, common.within_b))
        (ap (λ (s : State). unless_halted s.halt (ppm_bytes (picture_of old j))) (shared_state (j + 1) (omega (arith, lt))) ∙ ap (λ (p : List ℕ). unless_halted (state_after new (j + 1)).halt (ppm_bytes p)) (shared_picture j lt));
  }

  input_below : (j : ℕ) → j < front → input_at old j ≡ input_at new j
  input_below j lt =
      slice_get-get_or old.inputs j no_input (omega (arith, lt, common.within_a)) ∙ ap Some (shared_input j no_input lt) ∙ sym (slice_get-get_or new.inputs j no_input (omega (arith, lt, common.within_b)))

  -- the inputs differ at its end, but for two movies that both end there
  pub first_input : (is_same : Bool) → (is_same ≡ true → front ≡ max (length old.inputs) (length new.inputs)) → (is_same ≡ false → front ≢ max (length old.inputs) (length new.inputs))
      → IsFirstDifference (input_at old) (input_at new) (first_of None is_same front)
  first_input true if_same if_other = λ j.
      elim (cases_lt j front) [
        | inl lt ↦ input_below j lt
        | inr le ↦ slice_get_past old.inputs j (omega (arith, le, if_same refl)) ∙ sym (slice_get_past new.inputs j (omega (arith, le, if_same refl)))
      ]
  first_input false if_same if_other = (apart, input_below)
    where
      apart : input_at old front ≢ input_at new front
      apart = λ e.
          elim (cases_lt front (length old.inputs)) [
            | inl lt ↦ elim (cases_lt front (length new.inputs)) [
              | inl less ↦ common.longest lt less e
              | inr past ↦ some_no_none _ (sym (slice_get-get_or old.inputs front no_input lt) ∙ e ∙ slice_get_past new.inputs front past)
            ]
            | inr past ↦ elim (cases_lt front (length new.inputs)) [
              | inl less ↦ some_no_none _ (sym (slice_get-get_or new.inputs front no_input less) ∙ sym e ∙ slice_get_past old.inputs front past)
              | inr both ↦ if_other refl (omega (arith, past, both, common.within_a, common.within_b))
            ]
          ]
