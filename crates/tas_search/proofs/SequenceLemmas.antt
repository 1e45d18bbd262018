-- The list of all sequences of a length has each of them, in the order of their places.
use Rattle.std.proofs.Common.{◌≡◌, ℕ, zero, suc, ◌+◌, ◌-◌, ◌*◌, ◌^◌, ◌<◌, ◌≤◌, List, [], ◌∷◌, ◌++◌, length, map, refl, sym, ap, subst, ◌∙◌, inl, inr, arith}
use Rattle.std.specs.Prelude.{◌⊎◌, ◌↔◌, flat_map}
use Rattle.std.specs.List.{Contains, range_with_len}
use Rattle.std.proofs.lemmas.Bool.{cases_eq}
use Rattle.std.proofs.lemmas.List.{append-nil, map-append}
use Rattle.std.proofs.Math.Nat.{mul_assoc, pow-zero, pow-suc}
use Rattle.tas_search.specs.Space.{SpaceContent, AreNumbers, AreChoices, low_at, count_at, rank_from, rank}
use Rattle.tas_search.specs.LayerLines.{next_choices, sequences}

-- ---- members of lists

abbrev In : {X : Type 0} → List X → X → Type 0
In [] x = ⊥
In (y ∷ ys) x = (y ≡ x) ⊎ In ys x

contains_in : {X : Type 0} (xs : List X) (x : X) → Contains xs x → In xs x
contains_in [] x (k, lt, e) = absurd (omega (arith, lt))
contains_in (y ∷ ys) x (zero, lt, e) = inl e
contains_in (y ∷ ys) x (suc k, lt, e) = inr (contains_in ys x (k, omega (arith, lt), e))

in_contains : {X : Type 0} (xs : List X) (x : X) → In xs x → Contains xs x
in_contains [] x h = absurd h
in_contains (y ∷ ys) x (inl e) = (0, omega arith, e)
in_contains (y ∷ ys) x (inr h) = let there = in_contains ys x h in (suc there.0, omega (arith, there.1), there.2)

in_front : {X : Type 0} (xs ys : List X) (x : X) → In xs x → In (xs ++ ys) x
in_front [] ys x h = absurd h
in_front (z ∷ xs) ys x (inl e) = inl e
in_front (z ∷ xs) ys x (inr h) = inr (in_front xs ys x h)

in_back : {X : Type 0} (xs ys : List X) (x : X) → In ys x → In (xs ++ ys) x
in_back [] ys x h = h
in_back (z ∷ xs) ys x h = inr (in_back xs ys x h)

in_either : {X : Type 0} (xs ys : List X) (x : X) → In (xs ++ ys) x → In xs x ⊎ In ys x
in_either [] ys x h = inr h
in_either (z ∷ xs) ys x (inl e) = inl (inl e)
in_either (z ∷ xs) ys x (inr h) =
    elim (in_either xs ys x h) [
      | inl front ↦ inl (inr front)
      | inr back ↦ inr back
    ]

in_range : (k n i : ℕ) → In (range_with_len k n) i → (k ≤ i) × (i < k + n)
in_range k zero i h = absurd h
in_range k (suc n) i (inl e) = (omega (arith, e), omega (arith, e))
in_range k (suc n) i (inr h) = let there = in_range (k + 1) n i h in (omega (arith, there.0), omega (arith, there.1))

range_in : (k n i : ℕ) → k ≤ i → i < k + n → In (range_with_len k n) i
range_in k zero i low high = absurd (omega (arith, low, high))
range_in k (suc n) i low high =
    elim (cases_eq k i) [
      | inl e ↦ inl e
      | inr ne ↦ inr (range_in (k + 1) n i (omega arith) (omega (arith, high)))
    ]

-- ---- one choice more

-- a sequence with each of some choices after it
abbrev pushes : List ℕ → List ℕ → List (List ℕ)
pushes range ks = map (λ k. ks ++ k ∷ []) range

in_pushes : (range ks x : List ℕ) → In (pushes range ks) x → (k : ℕ) × In range k × (ks ++ k ∷ [] ≡ x)
in_pushes [] ks x h = absurd h
in_pushes (k ∷ range) ks x (inl e) = (k, inl refl, e)
in_pushes (k ∷ range) ks x (inr h) = let there = in_pushes range ks x h in (there.0, inr there.1, there.2)

pushes_in : (range ks : List ℕ) (k : ℕ) → In range k → In (pushes range ks) (ks ++ k ∷ [])
pushes_in [] ks k h = absurd h
pushes_in (j ∷ range) ks k (inl e) = inl (ap (λ (i : ℕ). ks ++ i ∷ []) e)
pushes_in (j ∷ range) ks k (inr h) = inr (pushes_in range ks k h)

in_all_pushes : (range : List ℕ) (seqs : List (List ℕ)) (x : List ℕ) → In (flat_map (pushes range) seqs) x → (ks : List ℕ) × (k : ℕ) × In seqs ks × In range k × (ks ++ k ∷ [] ≡ x)
in_all_pushes range [] x h = absurd h
in_all_pushes range (ks ∷ seqs) x h =
    elim (in_either (pushes range ks) (flat_map (pushes range) seqs) x h) [
      | inl front ↦ let there = in_pushes range ks x front in (ks, there.0, inl refl, there.1, there.2)
      | inr back ↦ let there = in_all_pushes range seqs x back in (there.0, there.1, inr there.2, there.3, there.4)
    ]

all_pushes_in : (range : List ℕ) (seqs : List (List ℕ)) (ks : List ℕ) (k : ℕ) → In seqs ks → In range k → In (flat_map (pushes range) seqs) (ks ++ k ∷ [])
all_pushes_in range [] ks k h r = absurd h
all_pushes_in range (js ∷ seqs) ks k (inl e) r =
    in_front (pushes range js) (flat_map (pushes range) seqs) (ks ++ k ∷ []) (subst (λ (is : List ℕ). In (pushes range is) (ks ++ k ∷ [])) (sym e) (pushes_in range ks k r))
all_pushes_in range (js ∷ seqs) ks k (inr h) r = in_back (pushes range js) (flat_map (pushes range) seqs) (ks ++ k ∷ []) (all_pushes_in range seqs ks k h r)

-- a list that isn't empty has a last element
with_last : (xs : List ℕ) (n : ℕ) → length xs ≡ suc n → (ks : List ℕ) × (k : ℕ) × (length ks ≡ n) × (ks ++ k ∷ [] ≡ xs)
with_last [] n e = absurd (omega (arith, e))
with_last (x ∷ []) n e = ([], x, omega (arith, e), refl)
with_last (x ∷ y ∷ ys) zero e = absurd (omega (arith, e))
with_last (x ∷ y ∷ ys) (suc n) e =
    let there = with_last (y ∷ ys) n (omega (arith, e)) in (x ∷ there.0, there.1, omega (arith, there.2), ap (λ (zs : List ℕ). x ∷ zs) there.3)

module _ (s : SpaceContent) where
  numbers_push : (ks : List ℕ) (k : ℕ) → AreNumbers s ks → k < length s.choices → AreNumbers s (ks ++ k ∷ [])
  numbers_push [] k h lt = (lt, tt)
  numbers_push (c ∷ ks) k h lt = (h.0, numbers_push ks k h.1 lt)

  numbers_split : (ks : List ℕ) (k : ℕ) → AreNumbers s (ks ++ k ∷ []) → AreNumbers s ks × (k < length s.choices)
  numbers_split [] k h = (tt, h.0)
  numbers_split (c ∷ ks) k h = let there = numbers_split ks k h.1 in ((h.0, there.0), there.1)

  choices_push : (ks : List ℕ) (k : ℕ) → AreChoices s ks → low_at s (length ks) ≤ k → k < low_at s (length ks) + count_at s (length ks) → AreChoices s (ks ++ k ∷ [])
  choices_push [] k h low high = (low, omega (arith, low, high), tt)
  choices_push (c ∷ ks) k h low high = (h.0, h.1, numbers_push ks k h.2 (omega (arith, high)))

  choices_split : (ks : List ℕ) (k : ℕ) → AreChoices s (ks ++ k ∷ []) → AreChoices s ks × (low_at s (length ks) ≤ k) × (k < low_at s (length ks) + count_at s (length ks))
  choices_split [] k h = (tt, h.0, omega (arith, h.0, h.1))
  choices_split (c ∷ ks) k h = let there = numbers_split ks k h.2 in ((h.0, h.1, there.0), omega arith, omega (arith, there.1))

  -- what is listed is a sequence of the space
  listed_are : (n : ℕ) (x : List ℕ) → In (sequences s n) x → AreChoices s x × (length x ≡ n)
  listed_are zero x (inl e) = (subst (AreChoices s) e tt, sym (ap length e))
  listed_are zero x (inr h) = absurd h
  listed_are (suc n) x h =
      let there = in_all_pushes (next_choices s n) (sequences s n) x h in
      let before = listed_are n there.0 there.2 in
      let range = in_range (low_at s n) (count_at s n) there.1 there.3 in
      let pushed : AreChoices s (there.0 ++ there.1 ∷ []) =
      choices_push there.0 there.1 before.0 (subst (λ (i : ℕ). low_at s i ≤ there.1) (sym before.1) range.0)
      (subst (λ (i : ℕ). there.1 < low_at s i + count_at s i) (sym before.1) range.1) in
      (subst (AreChoices s) there.4 pushed, sym (ap length there.4) ∙ pushed_length there.0 there.1 ∙ ap suc before.1)
    where
      pushed_length : (ks : List ℕ) (k : ℕ) → length (ks ++ k ∷ []) ≡ suc (length ks)
      pushed_length [] k = refl
      pushed_length (c ∷ ks) k = ap suc (pushed_length ks k)

  -- each sequence of the space is listed
  are_listed : (n : ℕ) (x : List ℕ) → AreChoices s x → length x ≡ n → In (sequences s n) x
  are_listed zero [] h e = inl refl
  are_listed zero (c ∷ x) h e = absurd (omega (arith, e))
  are_listed (suc n) x h e =
      let there = with_last x n e in
      let parts = choices_split there.0 there.1 (subst (AreChoices s) (sym there.3) h) in
      let range : In (next_choices s n) there.1 =
      range_in (low_at s n) (count_at s n) there.1 (subst (λ (i : ℕ). low_at s i ≤ there.1) there.2 parts.1) (subst (λ (i : ℕ). there.1 < low_at s i + count_at s i) there.2 parts.2) in
      subst (In (sequences s (suc n))) there.3 (all_pushes_in (next_choices s n) (sequences s n) there.0 there.1 (are_listed n there.0 parts.0 there.2) range)

  pub sequences_are_all : (n : ℕ) (ks : List ℕ) → (AreChoices s ks × (length ks ≡ n)) ↔ Contains (sequences s n) ks
  sequences_are_all n ks = (
    (λ h. in_contains (sequences s n) ks (are_listed n ks h.0 h.1)),
    (λ h. listed_are n ks (contains_in (sequences s n) ks h)),
  )

-- ---- their places

range_append : (k n m : ℕ) → range_with_len k n ++ range_with_len (k + n) m ≡ range_with_len k (n + m)
range_append k zero m = ap (λ (i : ℕ). range_with_len i m) same ∙ ap (range_with_len k) none
  where
    same : k + 0 ≡ k
    same = omega arith

    none : m ≡ 0 + m
    none = omega arith
range_append k (suc n) m =
    ap (λ (i : ℕ). k ∷ (range_with_len (k + 1) n ++ range_with_len i m)) next
    ∙ ap (λ (xs : List ℕ). k ∷ xs) (range_append (k + 1) n m)
    ∙ ap (range_with_len k) more
  where
    next : k + suc n ≡ (k + 1) + n
    next = omega arith

    more : suc (n + m) ≡ suc n + m
    more = omega arith

module _ (s : SpaceContent) where
  rank_push : (ks : List ℕ) (k base r : ℕ) → rank_from base r (ks ++ k ∷ []) ≡ rank_from base r ks * base + k
  rank_push [] k base r = refl
  rank_push (c ∷ ks) k base r = rank_push ks k base (r * base + c)

  pushed_ranks : (ks : List ℕ) (k n : ℕ) → map (rank s) (pushes (range_with_len k n) ks) ≡ range_with_len (rank s ks * length s.choices + k) n
  pushed_ranks ks k zero = refl
  pushed_ranks ks k (suc n) =
      ap (λ (i : ℕ). i ∷ map (rank s) (pushes (range_with_len (k + 1) n) ks)) (rank_push ks k (length s.choices) 0)
      ∙ ap (λ (xs : List ℕ). (rank s ks * length s.choices + k) ∷ xs) (pushed_ranks ks (k + 1) n ∙ ap (λ (i : ℕ). range_with_len i n) next)
    where
      next : rank s ks * length s.choices + (k + 1) ≡ (rank s ks * length s.choices + k) + 1
      next = omega arith

  -- where the places of some sequences follow one another, so do those of the sequences with one choice more
  next_ranks : (seqs : List (List ℕ)) (a m : ℕ) → map (rank s) seqs ≡ range_with_len a m
      → map (rank s) (flat_map (pushes (range_with_len 0 (length s.choices))) seqs) ≡ range_with_len (a * length s.choices) (m * length s.choices)
  next_ranks [] a zero e = ap (range_with_len (a * length s.choices)) none
    where
      none : 0 ≡ 0 * length s.choices
      none = omega arith
  next_ranks [] a (suc m) e = absurd cc
  next_ranks (ks ∷ seqs) a zero e = absurd cc
  next_ranks (ks ∷ seqs) a (suc m) e =
      map-append (rank s) (pushes (range_with_len 0 (length s.choices)) ks) (flat_map (pushes (range_with_len 0 (length s.choices))) seqs)
      ∙ ap (λ (xs : List ℕ). xs ++ map (rank s) (flat_map (pushes (range_with_len 0 (length s.choices))) seqs)) (pushed_ranks ks 0 (length s.choices) ∙ ap (λ (i : ℕ). range_with_len i (length s.choices)) (front (head e)))
      ∙ ap (λ (xs : List ℕ). range_with_len (a * length s.choices) (length s.choices) ++ xs) (next_ranks seqs (a + 1) m (tail e) ∙ ap (λ (i : ℕ). range_with_len i (m * length s.choices)) back)
      ∙ range_append (a * length s.choices) (length s.choices) (m * length s.choices)
      ∙ ap (range_with_len (a * length s.choices)) all
    where
      head : rank s ks ∷ map (rank s) seqs ≡ a ∷ range_with_len (a + 1) m → rank s ks ≡ a
      head e = cc

      tail : rank s ks ∷ map (rank s) seqs ≡ a ∷ range_with_len (a + 1) m → map (rank s) seqs ≡ range_with_len (a + 1) m
      tail e = cc

      front : rank s ks ≡ a → rank s ks * length s.choices + 0 ≡ a * length s.choices
      front e = ap (λ (i : ℕ). i * length s.choices + 0) e ∙ plus (a * length s.choices)
        where
          plus : (n : ℕ) → n + 0 ≡ n
          plus n = omega arith

      back : (a + 1) * length s.choices ≡ a * length s.choices + length s.choices
      back = omega arith

      all : length s.choices + m * length s.choices ≡ suc m * length s.choices
      all = omega arith

  pub sequences_in_order : (n : ℕ) → map (rank s) (sequences s (suc n)) ≡ range_with_len (s.low * length s.choices ^ n) ((s.high - s.low) * length s.choices ^ n)
  sequences_in_order zero =
      ap (map (rank s)) (append-nil (pushes (range_with_len s.low (s.high - s.low)) []))
      ∙ pushed_ranks [] s.low (s.high - s.low)
      ∙ ap (λ (i : ℕ). range_with_len i (s.high - s.low)) first
      ∙ ap (range_with_len (s.low * length s.choices ^ 0)) count
    where
      power : length s.choices ^ 0 ≡ 1
      power = pow-zero (length s.choices)

      first : 0 * length s.choices + s.low ≡ s.low * length s.choices ^ 0
      first = omega (arith, ap (λ (p : ℕ). s.low * p) power)

      count : s.high - s.low ≡ (s.high - s.low) * length s.choices ^ 0
      count = omega (arith, ap (λ (p : ℕ). (s.high - s.low) * p) power)
  sequences_in_order (suc n) =
      next_ranks (sequences s (suc n)) (s.low * length s.choices ^ n) ((s.high - s.low) * length s.choices ^ n) (sequences_in_order n)
      ∙ ap (λ (i : ℕ). range_with_len i ((s.high - s.low) * length s.choices ^ n * length s.choices)) (more s.low)
      ∙ ap (range_with_len (s.low * length s.choices ^ suc n)) (more (s.high - s.low))
    where
      more : (a : ℕ) → a * length s.choices ^ n * length s.choices ≡ a * length s.choices ^ suc n
      more a = mul_assoc a (length s.choices ^ n) (length s.choices) ∙ ap (λ (i : ℕ). a * i) (sym (pow-suc (length s.choices) n))
