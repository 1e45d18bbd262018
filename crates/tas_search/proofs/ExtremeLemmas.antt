-- What the layers show of the best value.
use Rattle.std.proofs.Common.{◌≡◌, ℕ, zero, suc, ◌+◌, ◌<◌, ◌≤◌, true, false, List, [], ◌∷◌, length, get_or, Option, Some, None, refl, sym, ap, subst, ◌∙◌, inl, inr, arith}
use Rattle.std.specs.Prelude.{ℤ}
use Rattle.std.proofs.lemmas.Bool.{cases_lt}
use Rattle.std.proofs.lemmas.Int.{ints}
use Rattle.vcs_machine.specs.Machine.{Machine}
use Rattle.tas_search.specs.declared.arrival.Arrival.{Arrival}
use Rattle.tas_search.specs.declared.arrival.Step.{Step}
use Rattle.tas_search.specs.declared.extremes.Aim.{Aim}
use Rattle.tas_search.specs.declared.extremes.Aim.TheVariants.{Most, Least}
use Rattle.tas_search.specs.Space.{SpaceContent, AreChoices, reached, rank}
use Rattle.tas_search.specs.Extreme.{IsAsGood, IsExtreme}
use Rattle.tas_search.specs.Inside.Layers.{Reached, layer_of}
use Rattle.tas_search.specs.Inside.Arrivals.{no_step, path, with_path, IsFrontier}
use Rattle.tas_search.specs.Inside.Extremes.{beats, IsExtremeAt}
use Rattle.tas_search.proofs.LayerLemmas.{Covers, Ascends, layer_covers, layer_ascends}
use Rattle.tas_search.proofs.SoundLemmas.{IsRight, right_layer}
use Rattle.tas_search.proofs.ReachLemmas.{right_at, member_is, layer_length}

-- ---- values

pub as_good : (aim : Aim) (a b : ℤ) → beats aim b a ≡ false → IsAsGood aim a b
as_good Most a b e = grind (arith, ints)
as_good Least a b e = grind (arith, ints)

pub none_beats_itself : (aim : Aim) (a b : ℤ) → a ≡ b → beats aim a b ≡ true → ⊥
none_beats_itself Most a b e h = grind (arith, ints)
none_beats_itself Least a b e h = grind (arith, ints)

-- what beats a value beats all that don't beat that value
pub beats_more : (aim : Aim) (a b c : ℤ) → beats aim a b ≡ true → beats aim c b ≡ false → beats aim a c ≡ true
beats_more Most a b c e f = grind (arith, ints)
beats_more Least a b c e f = grind (arith, ints)

-- what a value that is beaten doesn't beat, its better doesn't lose to
pub beats_less : (aim : Aim) (a b c : ℤ) → beats aim a b ≡ true → beats aim c b ≡ false → beats aim c a ≡ false
beats_less Most a b c e f = grind (arith, ints)
beats_less Least a b c e f = grind (arith, ints)

pub beats_never : (aim : Aim) (a : ℤ) → beats aim a a ≡ false
beats_never Most a = grind (arith, ints)
beats_never Least a = grind (arith, ints)

-- ---- places in a layer

module _ (s : SpaceContent) where
  -- where a machine is that a layer covers
  pub covered_at : (rs : List Reached) (m : Machine) (q : ℕ) (d : Reached) → Covers s rs m q
      → (k : ℕ) × (k < length rs) × ((get_or rs k d).machine ≡ m) × (rank s (get_or rs k d).sequence ≤ q)
  covered_at [] m q d c = absurd c
  covered_at (r ∷ rs) m q d (inl c) = (0, omega arith, c.0, c.1)
  covered_at (r ∷ rs) m q d (inr c) = let rest = covered_at rs m q d c in (suc rest.0, omega (arith, rest.1), rest.2, rest.3)

  above : (rs : List Reached) (a k : ℕ) (d : Reached) → Ascends s a rs → k < length rs → a ≤ rank s (get_or rs k d).sequence
  above [] a k d h lt = absurd (omega arith)
  above (r ∷ rs) a zero d h lt = h.0
  above (r ∷ rs) a (suc k) d h lt = let more : rank s r.sequence + 1 ≤ rank s (get_or rs k d).sequence = above rs (rank s r.sequence + 1) k d h.1 (omega arith) in omega arith

  pub later_rank : (rs : List Reached) (a i k : ℕ) (d : Reached) → Ascends s a rs → k < length rs → i ≤ k → rank s (get_or rs i d).sequence ≤ rank s (get_or rs k d).sequence
  later_rank [] a i k d h lt le = absurd (omega arith)
  later_rank (r ∷ rs) a zero zero d h lt le = omega arith
  later_rank (r ∷ rs) a zero (suc k) d h lt le = let more : rank s r.sequence + 1 ≤ rank s (get_or rs k d).sequence = above rs (rank s r.sequence + 1) k d h.1 (omega arith) in omega arith
  later_rank (r ∷ rs) a (suc i) zero d h lt le = absurd (omega arith)
  later_rank (r ∷ rs) a (suc i) (suc k) d h lt le = later_rank rs (rank s r.sequence + 1) i k d h.1 (omega arith) (omega arith)

-- ---- the best sequence

-- where a machine that sequences of a frontier's length reach is among its arrivals
found_at : (s : SpaceContent) (depth place : ℕ) (parents : List Step) (bs : List Arrival) (d : Arrival) (other : List ℕ) (m : Machine) → IsFrontier s depth place parents bs
    → AreChoices s other → length other ≡ depth → reached s other ≡ Some m
    → (k : ℕ) × (k < length bs) × ((get_or bs k d).state ≡ m) × (rank s (path parents depth (get_or bs k d).step) ≤ rank s other)
found_at s depth place parents bs d other m frontier are same is =
    let covered : Covers s (layer_of s depth) m (rank s other) = subst (λ (n : ℕ). Covers s (layer_of s n) m (rank s other)) same (layer_covers s other m are is) in
    let there = covered_at s (layer_of s depth) m (rank s other) (with_path parents depth d) covered in
    let member = member_is s depth place parents bs there.0 d frontier in (
      there.0,
      omega (arith, there.1, layer_length s depth place parents bs frontier),
      sym (ap (λ (r : Reached). r.machine) member) ∙ there.2,
      subst (λ (r : Reached). rank s r.sequence ≤ rank s other) member there.3,
    )

pub extreme_found : (s : SpaceContent) (aim : Aim) (value : Machine → ℤ) (depth place : ℕ) (parents : List Step) (bs : List Arrival) (i : ℕ) (d : Arrival) → IsFrontier s depth place parents bs
    → IsExtremeAt aim value bs i → IsExtreme s aim value depth (path parents depth (get_or bs i d).step)
extreme_found s aim value depth place parents bs i d frontier h =
    let size : length (layer_of s depth) ≡ length bs = layer_length s depth place parents bs frontier in
    let right : IsRight s depth (with_path parents depth (get_or bs i d)) =
    subst (IsRight s depth) (member_is s depth place parents bs i d frontier)
    (right_at s (λ m. true) depth i (layer_of s depth) (with_path parents depth d) (right_layer s depth) (omega (arith, size, h.within))) in
    record {
      choices = right.choices;
      count = right.count;
      machine = (get_or bs i d).state;
      reaches = right.machine;
      best = λ other m are same is.
          let there = found_at s depth place parents bs d other m frontier are same is in
          subst (λ (x : Machine). IsAsGood aim (value (get_or bs i d).state) (value x)) there.2
          (as_good aim (value (get_or bs i d).state) (value (get_or bs there.0 d).state) (h.best there.0 d there.1));
      first = λ other m are same is tie.
          let there = found_at s depth place parents bs d other m frontier are same is in
          elim (cases_lt there.0 i) [
            | inl before ↦ absurd (none_beats_itself aim (value (get_or bs i d).state) (value (get_or bs there.0 d).state) (sym tie ∙ ap value (sym there.2)) (h.first there.0 d before))
            | inr after ↦
                let later : rank s (path parents depth (get_or bs i d).step) ≤ rank s (path parents depth (get_or bs there.0 d).step) =
                subst (λ (r : Reached). rank s (path parents depth (get_or bs i d).step) ≤ rank s r.sequence) (member_is s depth place parents bs there.0 d frontier)
                (subst (λ (r : Reached). rank s r.sequence ≤ rank s (get_or (layer_of s depth) there.0 (with_path parents depth d)).sequence) (member_is s depth place parents bs i d frontier)
                (later_rank s (layer_of s depth) 0 i there.0 (with_path parents depth d) (layer_ascends s depth) (omega (arith, size, there.1)) after)) in
                omega (arith, later, there.3)
          ];
    }

-- no sequence of a frontier's length reaches a machine where the frontier has no arrival
pub none_reached : (s : SpaceContent) (depth place : ℕ) (parents : List Step) (bs : List Arrival) → IsFrontier s depth place parents bs → length bs ≡ 0
    → (ks : List ℕ) → AreChoices s ks → length ks ≡ depth → reached s ks ≡ None
none_reached s depth place parents bs frontier empty ks are same = split (reached s ks) refl
  where
    split : (o : Option Machine) → reached s ks ≡ o → o ≡ None
    split None e = refl
    split (Some m) e =
        let there = found_at s depth place parents bs (record { state = s.start; step = no_step }) ks m frontier are same e in
        absurd (omega (arith, there.1))

-- the answer, by what the code has at hand
pub extreme_answer : (s : SpaceContent) (aim : Aim) (value : Machine → ℤ) (n depth place : ℕ) (parents : List Step) (bs : List Arrival) (i : ℕ) (d : Arrival) (last : Step) (ks : List ℕ)
    → IsFrontier s depth place parents bs → IsExtremeAt aim value bs i → last ≡ (get_or bs i d).step → ks ≡ path parents depth last → depth ≡ n → IsExtreme s aim value n ks
extreme_answer s aim value n depth place parents bs i d last ks frontier h at is same =
    subst (λ (k : ℕ). IsExtreme s aim value k ks) same
    (subst (IsExtreme s aim value depth) (sym (is ∙ ap (path parents depth) at)) (extreme_found s aim value depth place parents bs i d frontier h))
