-- The window: which states it has, and how many.
use Rattle.std.proofs.Common.{◌≡◌, ◌⊎◌, ℕ, ◌+◌, ◌-◌, ◌*◌, ◌/◌, ◌%◌, ◌<◌, ◌≤◌, ◌&&◌, Bool, true, eqb, List, [], ◌∷◌, length, take, filter, Option, Some, refl, sym, ap, ◌∙◌, inl, inr, arith, div-one}
use Rattle.std.specs.Prelude.{nat_le}
use Rattle.std.proofs.Math.Nat.{mod-one, add-mul-div_right}
use Rattle.std.proofs.lemmas.Bool.{leb-true, le-leb, eqb-true, and_parts}
use Rattle.std.proofs.lemmas.Bool.Decides.{leb_tells}
use Rattle.vcs_inputs.specs.declared.input.Input.{Input}
use Rattle.vcs_machine.specs.declared.state.State.{State}
use Rattle.vcs_machine.specs.Machine.{after}
use Rattle.tas_movie.specs.Content.{MovieContent}
use Rattle.tas_green.specs.declared.savestate.Savestate.{Savestate}
use Rattle.tas_green.specs.Zone.{state_at, IsRising, first_of, where_true}
use Rattle.tas_green.specs.Green.{AgreeUpTo}
use Rattle.tas_green.specs.Window.{is_close, is_near, AreNear, AreMovieStates, IsWindowMoved, IsFilled}
use Rattle.tas_green.proofs.ZoneLemmas.{at_same, at_later, state_at-filter, rising_filter, filter_whole}
use Rattle.tas_green.proofs.GridLemmas.{div_mono}
use Rattle.tas_green.proofs.BoundLemmas.{count_within, next_row}
use Rattle.tas_green.proofs.GreenLemmas.{where_some, first_some, some_is, frame_above, same_state}
use Rattle.tas_green.proofs.MovingLemmas.{shared_same}
use Rattle.tas_green.proofs.RunLemmas.{is_tested, near_test, HasKept}

-- ---- how many are near

pub near_parts : (end f : ℕ) → is_near end f ≡ true → (f ≤ end) × (is_close end f ≡ true)
near_parts end f e =
    let parts = and_parts (nat_le f end) (is_close end f) e in
    (leb-true f end parts.0, parts.1)

-- a close place is one of the 64 before the end, or a mark among the 512
close_parts : (end f : ℕ) → is_close end f ≡ true → (end ≤ f + 64) ⊎ ((f % 16 ≡ 0) × (end ≤ f + 512))
close_parts end f e =
    elim (leb_tells end (f + 64)) [
      | inl dense ↦ inl dense.1
      | inr far ↦
          let mark : (eqb (f % 16) 0 && nat_le end (f + 512)) ≡ true = rw far.0 at e in
          let parts = and_parts (eqb (f % 16) 0) (nat_le end (f + 512)) mark in
          inr (eqb-true (f % 16) 0 parts.0, leb-true end (f + 512) parts.1)
    ]

-- the place at the end is near
pub near_last : (end : ℕ) → is_near end end ≡ true
near_last end = rw (le-leb end end (omega arith), le-leb end (end + 64) (omega arith)) refl

-- close places are among the 512
close_back : (end f : ℕ) → is_close end f ≡ true → end ≤ f + 512
close_back end f e = elim (close_parts end f e) [ inl dense ↦ omega (arith, dense) | inr mark ↦ mark.1 ]

-- from the first of the 64 on there are at most 65
few_dense : (end : ℕ) (x : Savestate) (xs : List Savestate) → 0 < x.frame → IsRising x.frame xs → AreNear end (x ∷ xs) → end ≤ x.frame + 64 → length (x ∷ xs) ≤ 65
few_dense end x xs pos h near le =
    let from : IsRising (end - 65) (x ∷ xs) = (omega (arith, pos, le), h) in
    let all = count_within (x ∷ xs) (end - 65) 1 end (omega arith) from (λ f s e. ((near_parts end f (near f s e)).0, mod-one f)) (omega arith) in
    omega (arith, rw (div-one (end - 65), div-one end) at all)

few_from : (end low : ℕ) (xs : List Savestate) → IsRising low xs → AreNear end xs → low ≤ end → low / 16 + length xs ≤ end / 16 + 65
few_from end low [] h near le = let up = div_mono low end 16 (omega arith) le in omega (arith, up)
few_from end low (x ∷ xs) h near le =
    let here = near_parts end x.frame (near x.frame x.state (at_same x.frame x xs refl)) in
    elim (close_parts end x.frame here.1) [
      | inl dense ↦
          let up = div_mono low end 16 (omega arith) le in
          omega (arith, up, few_dense end x xs (omega (arith, h.0)) h.1 near dense)
      | inr mark ↦
          let rest = few_from end x.frame xs h.1 (λ f s e. near f s (at_later f x xs s h.1 e)) here.0 in
          omega (arith, rest, next_row low x.frame 16 (omega arith) h.0 mark.0)
    ]

pub few_near : (end : ℕ) (xs : List Savestate) → IsRising 0 xs → AreNear end xs → length xs ≤ 98
few_near end [] h near = omega arith
few_near end (x ∷ xs) h near =
    let here = near_parts end x.frame (near x.frame x.state (at_same x.frame x xs refl)) in
    let from : IsRising (end - 513) (x ∷ xs) = (omega (arith, close_back end x.frame here.1, h.0), h.1) in
    let all = few_from end (end - 513) (x ∷ xs) from near (omega arith) in
    let up : end / 16 ≤ (end - 513 + 33 * 16) / 16 = div_mono end (end - 513 + 33 * 16) 16 (omega arith) (omega arith) in
    omega (arith, all, rw (add-mul-div_right (end - 513) 33 {z = 16} (omega arith)) at up)

-- those that were near and those that were kept on the way are near
pub near_kept : (end from to : ℕ) (cart : List ℕ) (inputs : List Input) (old now : List Savestate) → AreNear end old → HasKept (near_test end) old cart inputs from to now → to ≤ end → AreNear end now
near_kept end from to cart inputs old now near is le f s e =
    elim (first_some (state_at f old) (where_true (is_tested (near_test end) from to f) (Some (after cart (take f inputs)))) s (sym (is f) ∙ e)) [
      | inl there ↦ near f s there
      | inr new ↦
          let played = tested_parts end from to f (where_some (is_tested (near_test end) from to f) (Some (after cart (take f inputs))) s new).0 in
          rw (le-leb f end (omega (arith, played.0))) played.1
    ]
  where
    tested_parts : (end from to f : ℕ) → is_tested (near_test end) from to f ≡ true → (f ≤ to) × (near_test end f ≡ true)
    tested_parts end from to f e =
        let outer = and_parts (nat_le (from + 1) f) _ e in
        let inner = and_parts (nat_le f to) (near_test end f) outer.1 in
        (leb-true f to inner.0, inner.1)

-- ---- a movie's states

pub states_kept : (movie : MovieContent) (test : ℕ → Bool) (from to : ℕ) (old now : List Savestate) → AreMovieStates movie old → IsRising 0 now
    → HasKept test old movie.cart movie.inputs from to now → to ≤ length movie.inputs → AreMovieStates movie now
states_kept movie test from to old now are rising is le = record {
  rising = rising;
  within = λ f s e. elim (first_some (state_at f old) (where_true (is_tested test from to f) (Some (after movie.cart (take f movie.inputs)))) s (sym (is f) ∙ e)) [
    | inl there ↦ are.within f s there
    | inr new ↦ omega (arith, (played f s new).0)
  ];
  each = λ f s e. elim (first_some (state_at f old) (where_true (is_tested test from to f) (Some (after movie.cart (take f movie.inputs)))) s (sym (is f) ∙ e)) [
    | inl there ↦ are.each f s there
    | inr new ↦ (played f s new).1
  ];
}
  where
    played : (f : ℕ) (s : State) → where_true (is_tested test from to f) (Some (after movie.cart (take f movie.inputs))) ≡ Some s → (f ≤ to) × (s ≡ after movie.cart (take f movie.inputs))
    played f s e =
        let both = where_some (is_tested test from to f) (Some (after movie.cart (take f movie.inputs))) s e in
        let outer = and_parts (nat_le (from + 1) f) (nat_le f to && test f) both.0 in
        let inner = and_parts (nat_le f to) (test f) outer.1 in
        (leb-true f to inner.0, sym (some_is _ s both.1))

pub states_filtered : (movie : MovieContent) (test : ℕ → Bool) (xs : List Savestate) → AreMovieStates movie xs → AreMovieStates movie (filter (λ kept. test kept.frame) xs)
states_filtered movie test xs are = record {
  rising = rising_filter (λ kept. test kept.frame) 0 xs are.rising;
  within = λ f s e. are.within f s (where_some (test f) (state_at f xs) s (sym (state_at-filter test f xs) ∙ e)).1;
  each = λ f s e. are.each f s (where_some (test f) (state_at f xs) s (sym (state_at-filter test f xs) ∙ e)).1;
}

pub near_filtered : (end : ℕ) (xs : List Savestate) → AreNear end (filter (λ kept. is_near end kept.frame) xs)
near_filtered end xs f s e = (where_some (is_near end f) (state_at f xs) s (sym (state_at-filter (is_near end) f xs) ∙ e)).0

-- the states near a place, and those kept on the way to it, are what a view leaves
pub filled_is : (movie : MovieContent) (from end : ℕ) (old now : List Savestate)
    → HasKept (near_test end) (filter (λ kept. is_near end kept.frame) old) movie.cart movie.inputs from end now → IsFilled movie from end old now
filled_is movie from end old now is f = is f ∙ ap (λ (o : Option State). first_of o (where_true (is_tested (near_test end) from end f) (Some (after movie.cart (take f movie.inputs))))) (state_at-filter (is_near end) f old)

-- ---- a cut

pub states_moved : (old new : MovieContent) (at : ℕ) (xs : List Savestate) → AreMovieStates old xs → AgreeUpTo at old new → at ≤ length new.inputs
    → AreMovieStates new (filter (λ kept. nat_le kept.frame at) xs)
states_moved old new at xs are agree le = record {
  rising = rising_filter (λ kept. nat_le kept.frame at) 0 xs are.rising;
  within = λ f s e. let left = left_parts f s e in omega (arith, left.0);
  each = λ f s e.
      let left = left_parts f s e in
      are.each f s left.1 ∙ same_state at f old new agree (frame_above f xs s are.rising left.1) left.0;
}
  where
    left_parts : (f : ℕ) (s : State) → state_at f (filter (λ kept. nat_le kept.frame at) xs) ≡ Some s → (f ≤ at) × (state_at f xs ≡ Some s)
    left_parts f s e =
        let parts = where_some (nat_le f at) (state_at f xs) s (sym (state_at-filter (λ p. nat_le p at) f xs) ∙ e) in
        (leb-true f at parts.0, parts.1)

-- a cut for the same movie leaves all
pub window_moved_same : (movie : MovieContent) (xs : List Savestate) → AreMovieStates movie xs → IsWindowMoved movie movie xs xs
window_moved_same movie xs are = (
  length movie.inputs,
  shared_same movie,
  filter_whole (λ p. nat_le p (length movie.inputs)) 0 xs are.rising (λ f s e. le-leb f (length movie.inputs) (are.within f s e)),
)
