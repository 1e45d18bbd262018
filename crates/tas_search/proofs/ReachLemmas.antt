-- What the layers show of the shortest sequence.
use Rattle.std.proofs.Common.{◌≡◌, ℕ, zero, suc, ◌+◌, ◌<◌, ◌≤◌, Bool, true, false, not, List, [], ◌∷◌, ◌++◌, length, map, take, drop, get_or, cond, nat_lt, Option, Some, None, refl, sym, ap, subst, ◌∙◌, inl, inr, arith}
use Rattle.std.specs.List.{position, position_or_len}
use Rattle.std.proofs.lemmas.List.{map-append, length-map, take-map, take_all, take-append-drop}
use Rattle.std.proofs.lemmas.List.Quantifiers.{position-Some}
use Rattle.std.proofs.lemmas.Bool.{cases_eq, ltb-false}
use Rattle.std.proofs.Math.ListN.{get_or-map}
use Rattle.vcs_machine.specs.Machine.{Machine}
use Rattle.tas_search.specs.declared.arrival.Arrival.{Arrival}
use Rattle.tas_search.specs.declared.arrival.Step.{Step}
use Rattle.tas_search.specs.Space.{SpaceContent, reached, rank}
use Rattle.tas_search.specs.Best.{Passes, NeedsAtLeast, IsShortest, AllReach, IsApart, AreApart, ReachMoreThan, FitsBelow}
use Rattle.tas_search.specs.Inside.Layers.{Reached, grown_from, layers_from, first_layer, layer_of}
use Rattle.tas_search.specs.Inside.Arrivals.{grown_arrivals, no_step, path, with_path, steps_of, IsFrontier, IsOver}
use Rattle.tas_search.proofs.LayerLemmas.{Covers, Ascends, covers_from, layer_covers, layer_ascends}
use Rattle.tas_search.proofs.SoundLemmas.{IsRight, AreRight, IsNew, AreDifferent, right_layer, right_grown, different_grown, first_different}
use Rattle.tas_search.proofs.ArrivalLemmas.{grown_is, next_layer_is}

some_is : (x y : Machine) → ◌≡◌ {A = Option Machine} (Some x) (Some y) → x ≡ y
some_is x y e = cc

false_true : (b : Bool) → b ≡ false → b ≡ true → ⊥
false_true b f t = cc

pub passes_some : (test : Machine → Bool) (o : Option Machine) → Passes test o → (m : Machine) × (o ≡ Some m) × (test m ≡ true)
passes_some test None h = absurd h
passes_some test (Some m) h = (m, refl, h)

pub some_passes : (test : Machine → Bool) (o : Option Machine) (m : Machine) → o ≡ Some m → test m ≡ true → Passes test o
some_passes test o m e h = subst (Passes test) (sym e) h

-- ---- the first that passes

fails_all : (p : Arrival → Bool) (bs : List Arrival) (k : ℕ) (d : Arrival) → length bs ≤ position_or_len p bs → k < length bs → p (get_or bs k d) ≡ false
fails_all p [] k d le lt = absurd (omega arith)
fails_all p (a ∷ bs) k d le lt = split (p a) refl k le lt (λ i. fails_all p bs i d)
  where
    split : (b : Bool) → p a ≡ b → (k : ℕ) → suc (length bs) ≤ cond (not b) (1 + position_or_len p bs) 0 → k < suc (length bs)
        → ((i : ℕ) → length bs ≤ position_or_len p bs → i < length bs → p (get_or bs i d) ≡ false) → p (get_or (a ∷ bs) k d) ≡ false
    split true e k le lt rest = absurd (omega arith)
    split false e zero le lt rest = e
    split false e (suc k) le lt rest = rest k (omega arith) (omega arith)

pub position_none : (p : Arrival → Bool) (bs : List Arrival) (k : ℕ) (d : Arrival) → position p bs ≡ None → k < length bs → p (get_or bs k d) ≡ false
position_none p bs k d e lt = fails_all p bs k d (past (nat_lt (position_or_len p bs) (length bs)) refl e) lt
  where
    past : (b : Bool) → nat_lt (position_or_len p bs) (length bs) ≡ b → cond b (Some (position_or_len p bs)) None ≡ None → length bs ≤ position_or_len p bs
    past true is none = absurd cc
    past false is none = omega (arith, ltb-false _ _ is)

module _ (s : SpaceContent) (test : Machine → Bool) where
  -- the first that passes has the least rank of all that do
  pub first_least : (rs : List Reached) (a i : ℕ) (d : Reached) (m : Machine) (q : ℕ) → Ascends s a rs → i < length rs
      → ((k : ℕ) → k < i → test (get_or rs k d).machine ≡ false) → test m ≡ true → Covers s rs m q → rank s (get_or rs i d).sequence ≤ q
  first_least [] a i d m q h lt fail pass c = absurd (omega arith)
  first_least (r ∷ rs) a zero d m q h lt fail pass (inl c) = c.1
  first_least (r ∷ rs) a zero d m q h lt fail pass (inr c) = let le : rank s r.sequence + 1 ≤ q = covers_from s rs m q (rank s r.sequence + 1) h.1 c in omega arith
  first_least (r ∷ rs) a (suc i) d m q h lt fail pass (inl c) = absurd (false_true (test m) (ap test (sym c.0) ∙ fail 0 (omega arith)) pass)
  first_least (r ∷ rs) a (suc i) d m q h lt fail pass (inr c) = first_least rs (rank s r.sequence + 1) i d m q h.1 (omega arith) (λ k l. fail (suc k) (omega arith)) pass c

  pub none_covered : (rs : List Reached) (d : Reached) (m : Machine) (q : ℕ) → ((k : ℕ) → k < length rs → test (get_or rs k d).machine ≡ false) → test m ≡ true → Covers s rs m q → ⊥
  none_covered [] d m q fail pass c = c
  none_covered (r ∷ rs) d m q fail pass (inl c) = false_true (test m) (ap test (sym c.0) ∙ fail 0 (omega arith)) pass
  none_covered (r ∷ rs) d m q fail pass (inr c) = none_covered rs d m q (λ k l. fail (suc k) (omega arith)) pass c

  pub right_at : (d i : ℕ) (rs : List Reached) (e : Reached) → AreRight s d rs → i < length rs → IsRight s d (get_or rs i e)
  right_at d i [] e h lt = absurd (omega arith)
  right_at d zero (r ∷ rs) e h lt = h.0
  right_at d (suc i) (r ∷ rs) e h lt = right_at d i rs e h.1 (omega arith)

-- ---- the shortest sequence

-- a member of a frontier's layer, as the definitions have it
pub member_is : (s : SpaceContent) (depth place : ℕ) (parents : List Step) (bs : List Arrival) (i : ℕ) (d : Arrival) → IsFrontier s depth place parents bs
    → get_or (layer_of s depth) i (with_path parents depth d) ≡ with_path parents depth (get_or bs i d)
member_is s depth place parents bs i d frontier =
    ap (λ (rs : List Reached). get_or rs i (with_path parents depth d)) (sym frontier.layer) ∙ get_or-map (with_path parents depth) bs i d

pub layer_length : (s : SpaceContent) (depth place : ℕ) (parents : List Step) (bs : List Arrival) → IsFrontier s depth place parents bs → length (layer_of s depth) ≡ length bs
layer_length s depth place parents bs frontier = ap length (sym frontier.layer) ∙ length-map bs (with_path parents depth)

pub shortest_found : (s : SpaceContent) (test : Machine → Bool) (depth place : ℕ) (parents : List Step) (bs : List Arrival) (i : ℕ) (d : Arrival) → IsFrontier s depth place parents bs
    → NeedsAtLeast s test depth → position (λ a. test a.state) bs ≡ Some i → IsShortest s test (path parents depth (get_or bs i d).step) × (length (path parents depth (get_or bs i d).step) ≡ depth)
shortest_found s test depth place parents bs i d frontier least found =
    let first = position-Some (λ a. test a.state) bs i d found in
    let size : length (layer_of s depth) ≡ length bs = layer_length s depth place parents bs frontier in
    let right : IsRight s depth (with_path parents depth (get_or bs i d)) =
    subst (IsRight s depth) (member_is s depth place parents bs i d frontier) (right_at s test depth i (layer_of s depth) (with_path parents depth d) (right_layer s depth) (omega (arith, size, first.0))) in
    let before : (k : ℕ) → k < i → test (get_or (layer_of s depth) k (with_path parents depth d)).machine ≡ false =
    λ k l. ap (λ (r : Reached). test r.machine) (member_is s depth place parents bs k d frontier) ∙ first.2 k l in (
      record {
        choices = right.choices;
        meets = some_passes test _ _ right.machine first.1;
        shortest = subst (NeedsAtLeast s test) (sym right.count) least;
        first = λ other are meets same.
            let there = passes_some test (reached s other) meets in
            let covered : Covers s (layer_of s depth) there.0 (rank s other) =
            subst (λ (n : ℕ). Covers s (layer_of s n) there.0 (rank s other)) (same ∙ right.count) (layer_covers s other there.0 are there.1) in
            subst (λ (r : Reached). rank s r.sequence ≤ rank s other) (member_is s depth place parents bs i d frontier)
            (first_least s test (layer_of s depth) 0 i (with_path parents depth d) there.0 (rank s other) (layer_ascends s depth) (omega (arith, size, first.0)) before there.2 covered);
      },
      right.count,
    )

pub none_found : (s : SpaceContent) (test : Machine → Bool) (depth place : ℕ) (parents : List Step) (bs : List Arrival) → IsFrontier s depth place parents bs
    → NeedsAtLeast s test depth → position (λ a. test a.state) bs ≡ None → NeedsAtLeast s test (depth + 1)
none_found s test depth place parents bs frontier least none = λ ks are meets.
    let le : depth ≤ length ks = least ks are meets in
    elim (cases_eq depth (length ks)) [
      | inl same ↦
          let there = passes_some test (reached s ks) meets in
          let d : Arrival = record { state = s.start; step = no_step } in
          let size : length (layer_of s depth) ≡ length bs = layer_length s depth place parents bs frontier in
          let covered : Covers s (layer_of s depth) there.0 (rank s ks) =
          subst (λ (n : ℕ). Covers s (layer_of s n) there.0 (rank s ks)) (sym same) (layer_covers s ks there.0 are there.1) in
          let fail : (k : ℕ) → k < length (layer_of s depth) → test (get_or (layer_of s depth) k (with_path parents depth d)).machine ≡ false =
          λ k l. ap (λ (r : Reached). test r.machine) (member_is s depth place parents bs k d frontier) ∙ position_none (λ a. test a.state) bs k d none (omega (arith, size)) in
          absurd (none_covered s test (layer_of s depth) (with_path parents depth d) there.0 (rank s ks) fail there.2 covered)
      | inr other ↦ omega arith
    ]

-- ---- more machines than are kept

right_take : (s : SpaceContent) (d n : ℕ) (rs : List Reached) → AreRight s d rs → AreRight s d (take n rs)
right_take s d zero rs h = tt
right_take s d (suc n) [] h = tt
right_take s d (suc n) (r ∷ rs) h = (h.0, right_take s d n rs h.1)

sequences_of : List Reached → List (List ℕ)
sequences_of rs = map (λ r. r.sequence) rs

all_reach : (s : SpaceContent) (d : ℕ) (rs : List Reached) → AreRight s d rs → AllReach s d (sequences_of rs)
unfolding sequences_of
all_reach s d [] h = tt
all_reach s d (r ∷ rs) h = (h.0.choices, h.0.count, (λ none. none_some (sym none ∙ h.0.machine)), all_reach s d rs h.1)
  where
    none_some : ◌≡◌ {A = Option Machine} None (Some r.machine) → ⊥
    none_some e = cc

is_apart : (s : SpaceContent) (d : ℕ) (r : Reached) (rs : List Reached) → IsRight s d r → AreRight s d rs → IsNew s r.machine rs → IsApart s r.sequence (sequences_of rs)
unfolding sequences_of
is_apart s d r [] h hs new = tt
is_apart s d r (o ∷ rs) h hs new = ((λ same. new.0 (some_is r.machine o.machine (sym h.machine ∙ same ∙ hs.0.machine))), is_apart s d r rs h hs.1 new.1)

are_apart : (s : SpaceContent) (d : ℕ) (rs : List Reached) → AreRight s d rs → AreDifferent s rs → AreApart s (sequences_of rs)
unfolding sequences_of
are_apart s d [] h new = tt
are_apart s d (r ∷ rs) h new = (is_apart s d r rs h.0 h.1 new.0, are_apart s d rs h.1 new.1)

-- what the first of a frontier's arrivals reach
some_grown : (s : SpaceContent) (depth place : ℕ) (parents : List Step) (bs : List Arrival) (j : ℕ) → IsFrontier s depth place parents bs
    → (rs : List Reached) × (map (with_path parents (suc depth)) (grown_arrivals s [] place (take j bs)) ≡ rs) × AreRight s (depth + 1) rs × AreDifferent s rs
unfolding layers_from
some_grown s zero zero parents bs zero frontier = ([], refl, tt, tt)
some_grown s zero zero parents bs (suc j) frontier =
    let one : length bs ≡ 1 = sym (layer_length s 0 0 parents bs frontier) in (
      first_layer s,
      ap (λ (xs : List Arrival). map (with_path parents 1) (grown_arrivals s [] 0 xs)) (take_all (suc j) bs (omega (arith, one))) ∙ next_layer_is s 0 0 parents bs frontier,
      right_layer s 1,
      first_different s,
    )
some_grown s zero (suc place) parents bs j frontier = absurd frontier.after
some_grown s (suc depth) zero parents bs j frontier = absurd frontier.after
some_grown s (suc depth) (suc place) parents bs j frontier =
    let steps : drop (suc place) parents ≡ steps_of (take j bs) ++ steps_of (drop j bs) =
    frontier.steps ∙ ap steps_of (sym (take-append-drop j bs)) ∙ map-append (λ a. a.step) (take j bs) (drop j bs) in
    let layer : AreRight s (suc depth) (map (with_path parents (suc depth)) (take j bs)) =
    subst (AreRight s (suc depth)) (ap (take j) (sym frontier.layer) ∙ take-map (with_path parents (suc depth)) j bs) (right_take s (suc depth) j (layer_of s (suc depth)) (right_layer s (suc depth))) in (
      grown_from s [] (map (with_path parents (suc depth)) (take j bs)),
      grown_is s parents (suc depth) (take j bs) [] place (steps_of (drop j bs)) steps,
      right_grown s (map (with_path parents (suc depth)) (take j bs)) [] (suc depth) (omega arith) tt layer,
      different_grown s (map (with_path parents (suc depth)) (take j bs)) [] tt,
    )

pub crowded : (s : SpaceContent) (depth place most : ℕ) (parents : List Step) (bs : List Arrival) → IsFrontier s depth place parents bs → IsOver s bs place most → ReachMoreThan s (depth + 1) most
unfolding sequences_of
crowded s depth place most parents bs frontier over =
    let part = some_grown s depth place parents bs over.0 frontier in
    let count : length (sequences_of part.0) ≡ length (grown_arrivals s [] place (take over.0 bs)) =
    length-map part.0 (λ r. r.sequence) ∙ ap length (sym part.1) ∙ length-map (grown_arrivals s [] place (take over.0 bs)) (with_path parents (suc depth)) in
    record {
      sequences = sequences_of part.0;
      reach = all_reach s (depth + 1) part.0 part.2;
      apart = are_apart s (depth + 1) part.0 part.2 part.3;
      more = omega (arith, count, over.1);
    }

-- ---- the empty sequence

pub start_shortest : (s : SpaceContent) (test : Machine → Bool) → test s.start ≡ true → IsShortest s test []
start_shortest s test pass = record {
  choices = tt;
  meets = pass;
  shortest = λ ks are meets. omega arith;
  first = λ other are meets same. omega arith;
}

pub start_fails : (s : SpaceContent) (test : Machine → Bool) → test s.start ≡ false → NeedsAtLeast s test 1
start_fails s test fail [] are meets = absurd (false_true (test s.start) fail meets)
start_fails s test fail (k ∷ ks) are meets = omega arith

-- ---- the answers

pub best_answer : (s : SpaceContent) (test : Machine → Bool) (most states depth place : ℕ) (parents : List Step) (bs : List Arrival) (i : ℕ) (d : Arrival) (last : Step) (ks : List ℕ)
    → IsFrontier s depth place parents bs → NeedsAtLeast s test depth → position (λ a. test a.state) bs ≡ Some i → last ≡ (get_or bs i d).step → ks ≡ path parents depth last → depth ≤ most → FitsBelow s states (depth + 1)
    → IsShortest s test ks × (length ks ≤ most) × FitsBelow s states (length ks + 1)
best_answer s test most states depth place parents bs i d last ks frontier least found at is le fits =
    let same : ks ≡ path parents depth (get_or bs i d).step = is ∙ ap (path parents depth) at in
    let both = shortest_found s test depth place parents bs i d frontier least found in
    let count : length ks ≡ depth = ap length same ∙ both.1 in
    (subst (IsShortest s test) (sym same) both.0, omega (arith, count), subst (λ (n : ℕ). FitsBelow s states (n + 1)) (sym count) fits)
