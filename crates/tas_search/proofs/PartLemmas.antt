-- What the parts of a space show of the whole.
use Rattle.std.proofs.Common.{◌≡◌, ℕ, zero, suc, ◌+◌, ◌-◌, ◌*◌, ◌/◌, ◌^◌, ◌<◌, ◌≤◌, Bool, List, [], ◌∷◌, ◌++◌, length, Option, Some, None, refl, sym, ap, subst, ◌∙◌, inl, inr, arith}
use Rattle.std.specs.Prelude.{ℤ, map, flat_map}
use Rattle.std.proofs.lemmas.Bool.{cases_lt}
use Rattle.std.proofs.lemmas.Int.{ints}
use Rattle.std.proofs.lemmas.Nat.{le-div, mul-lt}
use Rattle.std.proofs.lemmas.List.{length-append}
use Rattle.std.proofs.lemmas.List.FromFn.{length-map-range_with_len}
use Rattle.std.specs.List.{range_with_len}
use Rattle.std.proofs.Math.Nat.{div-eq_of_lt-le, div-mul-le_self, mul-le-mul_right, zero-div, mul_comm, mul_assoc, pow-zero, pow-suc}
use Rattle.vcs_machine.specs.Machine.{Machine, unless_halted}
use Rattle.tas_search.specs.declared.extremes.Aim.{Aim}
use Rattle.tas_search.specs.Space.{SpaceContent, AreNumbers, AreChoices, after_choice, reached_from, reached, rank}
use Rattle.tas_search.specs.declared.extremes.Aim.TheVariants.{Most, Least}
use Rattle.tas_search.specs.Outcome.{Outcome, best, nothing, stopped}
use Rattle.tas_search.specs.Best.{IsShortest, IsReachAnswer, Meets, NeedsAtLeast, Passes}
use Rattle.tas_search.specs.Extreme.{IsAsGood, IsExtreme, IsExtremeAnswer}
use Rattle.tas_search.specs.Parts.{IsPart, part_end, part_of, sequence_count, whole, HaveShortest, least_count, IsShortestPart, HaveExtremes, IsBetter, HasValue, IsBestPart}
use Rattle.tas_search.specs.LayerLines.{sequences}
use Rattle.tas_search.proofs.OrderLemmas.{difference_decides}

-- ---- where parts end

first_end : (n choices : ℕ) → part_end 0 n choices ≡ 0
first_end n choices = ap (λ (k : ℕ). k / n) none ∙ zero-div n
  where
    none : 0 * choices ≡ 0
    none = omega arith

last_end : (n choices : ℕ) → 1 ≤ n → part_end n n choices ≡ choices
last_end n choices some = div-eq_of_lt-le n (omega (arith, mul_comm n choices)) (omega (arith, mul_comm n choices))

pub ends_rise : (j k n choices : ℕ) → 1 ≤ n → j ≤ k → part_end j n choices ≤ part_end k n choices
ends_rise j k n choices some le =
    let more : j * choices ≤ k * choices = mul-le-mul_right choices le in
    let within : part_end j n choices * n ≤ j * choices = div-mul-le_self (j * choices) n in
    le-div (part_end j n choices) (k * choices) n (omega arith) (omega (arith, more, within))

pub end_within : (k n choices : ℕ) → 0 < n → k ≤ n → part_end k n choices ≤ choices
end_within k n choices some le = omega (arith, ends_rise k n n choices (omega arith) le, last_end n choices (omega arith))

pub product_fits : (a b : ℕ) → a < 2 ^ 64 → b < 2 ^ 64 → a * b < 2 ^ 128
product_fits a b h g = let less : a * b < (2 ^ 64) * (2 ^ 64) = mul-lt a b (2 ^ 64) (2 ^ 64) h g in omega (arith, less)

-- the part of a first choice
abbrev Holds : (n choices c k : ℕ) → Type 0
Holds n choices c k = IsPart k n × (part_end (k - 1) n choices ≤ c) × (c < part_end k n choices)

held_below : (n choices c m : ℕ) → m ≤ n → c < part_end m n choices → (k : ℕ) × Holds n choices c k
held_below n choices c zero le lt = absurd (omega (arith, lt, first_end n choices))
held_below n choices c (suc m) le lt =
    elim (cases_lt c (part_end m n choices)) [
      | inl less ↦ held_below n choices c m (omega arith) less
      | inr more ↦ (suc m, ((omega arith, omega arith), subst (λ (i : ℕ). part_end i n choices ≤ c) before more, lt))
    ]
  where
    before : m ≡ suc m - 1
    before = omega arith

held : (n choices c : ℕ) → 1 ≤ n → c < choices → (k : ℕ) × Holds n choices c k
held n choices c some lt = held_below n choices c n (omega arith) (omega (arith, lt, last_end n choices some))

-- ---- how many sequences a part has

-- one choice more, of n
more_sequences : (k n : ℕ) (seqs : List (List ℕ)) → length (flat_map (λ ks. map (λ i. ks ++ i ∷ []) (range_with_len k n)) seqs) ≡ length seqs * n
more_sequences k n [] = omega arith
more_sequences k n (ks ∷ seqs) =
    omega (
      arith,
      length-append (map (λ i. ks ++ i ∷ []) (range_with_len k n)) (flat_map (λ ks. map (λ i. ks ++ i ∷ []) (range_with_len k n)) seqs),
      length-map-range_with_len (λ i. ks ++ i ∷ []) k n,
      more_sequences k n seqs,
    )

long_sequences : (s : SpaceContent) (n : ℕ) → length (sequences s (suc n)) ≡ (s.high - s.low) * length s.choices ^ n
long_sequences s zero =
    more_sequences s.low (s.high - s.low) (sequences s 0) ∙ (let power : length s.choices ^ 0 ≡ 1 = pow-zero (length s.choices) in omega (arith, ap (λ (p : ℕ). (s.high - s.low) * p) power))
long_sequences s (suc n) =
    more_sequences 0 (length s.choices) (sequences s (suc n))
    ∙ ap (λ (i : ℕ). i * length s.choices) (long_sequences s n)
    ∙ mul_assoc (s.high - s.low) (length s.choices ^ n) (length s.choices)
    ∙ ap (λ (i : ℕ). (s.high - s.low) * i) (sym (pow-suc (length s.choices) n))

pub sequences_counted : (s : SpaceContent) (k n count : ℕ) → length (sequences (part_of s k n) count) ≡ sequence_count k n (length s.choices) count
sequences_counted s k n zero = refl
sequences_counted s k n (suc count) = long_sequences (part_of s k n) count

-- ---- the same sequences and machines

module _ (s : SpaceContent) (low high : ℕ) where
  abbrev bounded : SpaceContent
  bounded = record s { low = low; high = high }

  numbers_same : (ks : List ℕ) → AreNumbers s ks → AreNumbers bounded ks
  numbers_same [] h = tt
  numbers_same (k ∷ ks) h = (h.0, numbers_same ks h.1)

  same_numbers : (ks : List ℕ) → AreNumbers bounded ks → AreNumbers s ks
  same_numbers [] h = tt
  same_numbers (k ∷ ks) h = (h.0, same_numbers ks h.1)

  same_from : (m : Machine) (ks : List ℕ) → reached_from bounded m ks ≡ reached_from s m ks
  same_from m [] = refl
  same_from m (k ∷ ks) = ap (λ (o : Option Machine). unless_halted m.halt o None) (same_from (after_choice s m k) ks)

module _ (s : SpaceContent) (n : ℕ) (some : 1 ≤ n) where
  -- what a sequence reaches, in a part and in the whole
  same_reached : (k : ℕ) (ks : List ℕ) → reached (part_of s k n) ks ≡ reached (whole s) ks
  same_reached k ks = same_from s (part_end (k - 1) n (length s.choices)) (part_end k n (length s.choices)) s.start ks ∙ sym (same_from s 0 (length s.choices) s.start ks)

  part_within : (k : ℕ) (ks : List ℕ) → k ≤ n → AreChoices (part_of s k n) ks → AreChoices (whole s) ks
  part_within k [] le h = tt
  part_within k (c ∷ ks) le h =
      let less : part_end k n (length s.choices) ≤ part_end n n (length s.choices) = ends_rise k n n (length s.choices) some le in (
        omega arith,
        omega (arith, h.1, less, last_end n (length s.choices) some),
        numbers_same s 0 (length s.choices) ks (same_numbers s (part_end (k - 1) n (length s.choices)) (part_end k n (length s.choices)) ks h.2),
      )

  -- each sequence is one of a part
  in_part : (ks : List ℕ) → AreChoices (whole s) ks → (k : ℕ) × IsPart k n × AreChoices (part_of s k n) ks
  in_part [] h = (1, (omega arith, omega (arith, some)), tt)
  in_part (c ∷ ks) h =
      let there = held n (length s.choices) c some h.1 in (
        there.0,
        there.1.0,
        (
          there.1.1,
          there.1.2,
          numbers_same s (part_end (there.0 - 1) n (length s.choices)) (part_end there.0 n (length s.choices)) ks (same_numbers s 0 (length s.choices) ks h.2),
        ),
      )

  -- the sequences of a part come before those of a later one
  later_ranks : (k j : ℕ) (ks os : List ℕ) → k < j → AreChoices (part_of s k n) ks → AreChoices (part_of s j n) os → length os ≡ length ks → rank s ks ≤ rank s os
  later_ranks k j [] [] lt h g same = omega arith
  later_ranks k j [] (d ∷ os) lt h g same = absurd (omega (arith, same))
  later_ranks k j (c ∷ ks) [] lt h g same = absurd (omega (arith, same))
  later_ranks k j (c ∷ ks) (d ∷ os) lt h g same =
      let between : part_end k n (length s.choices) ≤ part_end (j - 1) n (length s.choices) = ends_rise k (j - 1) n (length s.choices) some (omega arith) in
      let numbers : AreNumbers s ks = same_numbers s (part_end (k - 1) n (length s.choices)) (part_end k n (length s.choices)) ks h.2 in
      let less : rank s (c ∷ ks) < rank s (d ∷ os) = difference_decides s [] ks os c d (omega (arith, h.1, between, g.0)) numbers (omega (arith, same)) in
      omega (arith, less)

  meets_same : (goal : Machine → Bool) (k : ℕ) (ks : List ℕ) → Meets (whole s) goal ks → Meets (part_of s k n) goal ks
  meets_same goal k ks h = subst (Passes goal) (sym (same_reached k ks)) h

-- ---- the whole

-- part k has a shortest sequence that no other part beats: in the parts before it none of as many choices or fewer meets the goal, and in those after it
-- none of fewer
record Shortest (s : SpaceContent) (goal : Machine → Bool) (k n : ℕ) (ks : List ℕ) : Type 0 where
  part : IsPart k n
  shortest : IsShortest (part_of s k n) goal ks
  before : (j : ℕ) → 1 ≤ j → j < k → NeedsAtLeast (part_of s j n) goal (length ks + 1)
  after : (j : ℕ) → k < j → j ≤ n → NeedsAtLeast (part_of s j n) goal (length ks)

-- each sequence of `count` choices that reaches a machine reaches one whose value passes the test
abbrev EachReaches : SpaceContent → (Machine → ℤ) → ℕ → (ℤ → Type 0) → Type 0
EachReaches s value count Test = (ks : List ℕ) (m : Machine) → AreChoices s ks → length ks ≡ count → reached s ks ≡ Some m → Test (value m)

-- part k has a best value that no other part beats: those of the parts before it are worse, and those of the parts after it no better
record Extreme (s : SpaceContent) (aim : Aim) (value : Machine → ℤ) (count k n : ℕ) (ks : List ℕ) : Type 0 where
  part : IsPart k n
  extreme : IsExtreme (part_of s k n) aim value count ks
  before : (j : ℕ) → 1 ≤ j → j < k → EachReaches (part_of s j n) value count (IsBetter aim (value extreme.machine))
  after : (j : ℕ) → k < j → j ≤ n → EachReaches (part_of s j n) value count (IsAsGood aim (value extreme.machine))

best_part : (s : SpaceContent) (goal : Machine → Bool) (k n : ℕ) (ks : List ℕ) → Shortest s goal k n ks → IsShortest (whole s) goal ks
best_part s goal k n ks h = record {
  choices = part_within s n some k ks h.part.1 h.shortest.choices;
  meets = subst (Passes goal) (same_reached s n some k ks) h.shortest.meets;
  shortest = λ other are meets. fewest other meets (in_part s n some other are);
  first = λ other are meets same. earliest other meets same (in_part s n some other are);
}
  where
    some : 1 ≤ n
    some = omega (arith, h.part.0, h.part.1)

    fewest : (other : List ℕ) → Meets (whole s) goal other → (j : ℕ) × IsPart j n × AreChoices (part_of s j n) other → length ks ≤ length other
    fewest other meets there =
        let here : Meets (part_of s there.0 n) goal other = meets_same s n some goal there.0 other meets in
        elim (cases_lt there.0 k) [
          | inl before ↦ let more : length ks + 1 ≤ length other = h.before there.0 there.1.0 before other there.2 here in omega (arith, more)
          | inr on ↦
              elim (cases_lt k there.0) [
                | inl after ↦ h.after there.0 after there.1.1 other there.2 here
                | inr same ↦ own there.0 (omega (arith, on, same)) there.2 here
              ]
        ]
      where
        own : (j : ℕ) → j ≡ k → AreChoices (part_of s j n) other → Meets (part_of s j n) goal other → length ks ≤ length other
        own j e are here =
            h.shortest.shortest other (subst (λ (i : ℕ). AreChoices (part_of s i n) other) e are) (subst (λ (i : ℕ). Meets (part_of s i n) goal other) e here)

    earliest : (other : List ℕ) → Meets (whole s) goal other → length other ≡ length ks → (j : ℕ) × IsPart j n × AreChoices (part_of s j n) other → rank s ks ≤ rank s other
    earliest other meets same there =
        let here : Meets (part_of s there.0 n) goal other = meets_same s n some goal there.0 other meets in
        elim (cases_lt there.0 k) [
          | inl before ↦ let more : length ks + 1 ≤ length other = h.before there.0 there.1.0 before other there.2 here in absurd (omega (arith, more, same))
          | inr on ↦
              elim (cases_lt k there.0) [
                | inl after ↦ later_ranks s n some k there.0 ks other after h.shortest.choices there.2 same
                | inr equal ↦ own there.0 (omega (arith, on, equal)) there.2 here
              ]
        ]
      where
        own : (j : ℕ) → j ≡ k → AreChoices (part_of s j n) other → Meets (part_of s j n) goal other → rank s ks ≤ rank s other
        own j e are here =
            h.shortest.first other (subst (λ (i : ℕ). AreChoices (part_of s i n) other) e are) (subst (λ (i : ℕ). Meets (part_of s i n) goal other) e here) same

best_value : (s : SpaceContent) (aim : Aim) (value : Machine → ℤ) (count k n : ℕ) (ks : List ℕ) → Extreme s aim value count k n ks → IsExtreme (whole s) aim value count ks
best_value s aim value count k n ks h = record {
  choices = part_within s n some k ks h.part.1 h.extreme.choices;
  count = h.extreme.count;
  machine = h.extreme.machine;
  reaches = sym (same_reached s n some k ks) ∙ h.extreme.reaches;
  best = λ other m are same is. greatest other m same is (in_part s n some other are);
  first = λ other m are same is tie. earliest other m same is tie (in_part s n some other are);
}
  where
    some : 1 ≤ n
    some = omega (arith, h.part.0, h.part.1)

    greatest : (other : List ℕ) (m : Machine) → length other ≡ count → reached (whole s) other ≡ Some m → (j : ℕ) × IsPart j n × AreChoices (part_of s j n) other
        → IsAsGood aim (value h.extreme.machine) (value m)
    greatest other m same is there =
        let here : reached (part_of s there.0 n) other ≡ Some m = same_reached s n some there.0 other ∙ is in
        elim (cases_lt there.0 k) [
          | inl before ↦ (h.before there.0 there.1.0 before other m there.2 same here).0
          | inr on ↦
              elim (cases_lt k there.0) [
                | inl after ↦ h.after there.0 after there.1.1 other m there.2 same here
                | inr equal ↦ own there.0 (omega (arith, on, equal)) there.2 here
              ]
        ]
      where
        own : (j : ℕ) → j ≡ k → AreChoices (part_of s j n) other → reached (part_of s j n) other ≡ Some m → IsAsGood aim (value h.extreme.machine) (value m)
        own j e are here =
            h.extreme.best other m (subst (λ (i : ℕ). AreChoices (part_of s i n) other) e are) same (subst (λ (i : ℕ). reached (part_of s i n) other ≡ Some m) e here)

    earliest : (other : List ℕ) (m : Machine) → length other ≡ count → reached (whole s) other ≡ Some m → value m ≡ value h.extreme.machine
        → (j : ℕ) × IsPart j n × AreChoices (part_of s j n) other → rank s ks ≤ rank s other
    earliest other m same is tie there =
        let here : reached (part_of s there.0 n) other ≡ Some m = same_reached s n some there.0 other ∙ is in
        elim (cases_lt there.0 k) [
          | inl before ↦ absurd ((h.before there.0 there.1.0 before other m there.2 same here).1 tie)
          | inr on ↦
              elim (cases_lt k there.0) [
                | inl after ↦ later_ranks s n some k there.0 ks other after h.extreme.choices there.2 (same ∙ sym h.extreme.count)
                | inr equal ↦ own there.0 (omega (arith, on, equal)) there.2 here
              ]
        ]
      where
        own : (j : ℕ) → j ≡ k → AreChoices (part_of s j n) other → reached (part_of s j n) other ≡ Some m → rank s ks ≤ rank s other
        own j e are here =
            h.extreme.first other m (subst (λ (i : ℕ). AreChoices (part_of s i n) other) e are) same (subst (λ (i : ℕ). reached (part_of s i n) other ≡ Some m) e here) tie

no_part_meets : (s : SpaceContent) (goal : Machine → Bool) (n count : ℕ) → 1 ≤ n → ((k : ℕ) → IsPart k n → NeedsAtLeast (part_of s k n) goal count) → NeedsAtLeast (whole s) goal count
no_part_meets s goal n count some h = λ ks are meets.
    let there = in_part s n some ks are in h there.0 there.1 ks there.2 (meets_same s n some goal there.0 ks meets)

no_part_reaches : (s : SpaceContent) (n count : ℕ) → 1 ≤ n
    → ((k : ℕ) (ks : List ℕ) → IsPart k n → AreChoices (part_of s k n) ks → length ks ≡ count → reached (part_of s k n) ks ≡ None)
    → (ks : List ℕ) → AreChoices (whole s) ks → length ks ≡ count → reached (whole s) ks ≡ None
no_part_reaches s n count some h = λ ks are same.
    let there = in_part s n some ks are in sym (same_reached s n some there.0 ks) ∙ h there.0 ks there.1 there.2 same

-- ---- by the parts' answers

-- what an answer says of the goal
needs_by : (s : SpaceContent) (goal : Machine → Bool) (most states : ℕ) (answer : Outcome) → IsReachAnswer s goal most states answer → NeedsAtLeast s goal (least_count most answer)
needs_by s goal most states (best ks) h = h.0.shortest
needs_by s goal most states nothing h = h.0
needs_by s goal most states (stopped k) h = h.0

needs_less : (s : SpaceContent) (goal : Machine → Bool) (m n : ℕ) → m ≤ n → NeedsAtLeast s goal n → NeedsAtLeast s goal m
needs_less s goal m n le h = λ ks are meets. let more : n ≤ length ks = h ks are meets in omega (arith, le, more)

pub shortest_part : (s : SpaceContent) (goal : Machine → Bool) (most n : ℕ) (states : ℕ → ℕ) (answers : ℕ → Outcome) (k : ℕ) (ks : List ℕ) → HaveShortest s goal most n states answers → IsShortestPart most n answers k ks
    → IsShortest (whole s) goal ks
shortest_part s goal most n states answers k ks have h =
    best_part s goal k n ks
    (record {
      part = h.part;
      shortest = (subst (IsReachAnswer (part_of s k n) goal most (states k)) h.found (have k h.part)).0;
      before = λ j low lt.
          let less : length ks < least_count most (answers j) = h.before j low lt in
          needs_less (part_of s j n) goal (length ks + 1) (least_count most (answers j)) (omega (arith, less))
          (needs_by (part_of s j n) goal most (states j) (answers j) (have j (low, omega (arith, lt, h.part.1))));
      after = λ j lt high.
          needs_less (part_of s j n) goal (length ks) (least_count most (answers j)) (h.after j lt high)
          (needs_by (part_of s j n) goal most (states j) (answers j) (have j (omega (arith, lt, h.part.0), high)));
    })

pub whole_needs : (s : SpaceContent) (goal : Machine → Bool) (most n count : ℕ) (states : ℕ → ℕ) (answers : ℕ → Outcome) → 1 ≤ n → HaveShortest s goal most n states answers
    → ((k : ℕ) → IsPart k n → count ≤ least_count most (answers k)) → NeedsAtLeast (whole s) goal count
whole_needs s goal most n count states answers some have h =
    no_part_meets s goal n count some
    (λ k part. needs_less (part_of s k n) goal count (least_count most (answers k)) (h k part) (needs_by (part_of s k n) goal most (states k) (answers k) (have k part)))

better_more : (aim : Aim) (a b c : ℤ) → IsBetter aim a b → IsAsGood aim b c → IsBetter aim a c
better_more Most a b c h g = (grind (arith, ints), (λ e. h.1 (grind (arith, ints))))
better_more Least a b c h g = (grind (arith, ints), (λ e. h.1 (grind (arith, ints))))

good_more : (aim : Aim) (a b c : ℤ) → IsAsGood aim a b → IsAsGood aim b c → IsAsGood aim a c
good_more Most a b c h g = grind (arith, ints)
good_more Least a b c h g = grind (arith, ints)

no_machine : (o : Option Machine) (m : Machine) → o ≡ None → o ≡ Some m → ⊥
no_machine None m e f = absurd cc
no_machine (Some x) m e f = absurd cc

same_machine : (o : Option Machine) (m x : Machine) → o ≡ Some m → o ≡ Some x → m ≡ x
same_machine o m x e f = cc

-- what a part's answer says of the values of all its sequences
values_by : (s : SpaceContent) (aim : Aim) (value : Machine → ℤ) (count states j n : ℕ) (answer : Outcome) (Test : ℤ → Type 0) → ((b c : ℤ) → Test b → IsAsGood aim b c → Test c)
    → IsExtremeAnswer (part_of s j n) aim value count states answer → HasValue s value Test answer → EachReaches (part_of s j n) value count Test
values_by s aim value count states j n (best ks) Test more h has = λ other m are same is.
    more (value h.0.machine) (value m) (has h.0.machine (sym (same_from s (part_end (j - 1) n (length s.choices)) (part_end j n (length s.choices)) s.start ks) ∙ h.0.reaches))
    (h.0.best other m are same is)
values_by s aim value count states j n nothing Test more h has = λ other m are same is. absurd (no_machine (reached (part_of s j n) other) m (h.0 other are same) is)
values_by s aim value count states j n (stopped k) Test more h has = absurd has

pub extreme_part : (s : SpaceContent) (aim : Aim) (value : Machine → ℤ) (count n : ℕ) (states : ℕ → ℕ) (answers : ℕ → Outcome) (k : ℕ) (ks : List ℕ) → HaveExtremes s aim value count n states answers
    → IsBestPart s aim value n answers k ks → IsExtreme (whole s) aim value count ks
extreme_part s aim value count n states answers k ks have h =
    best_value s aim value count k n ks
    (record {
      part = h.part;
      extreme = own;
      before = λ j low lt.
          values_by s aim value count (states j) j n (answers j) (IsBetter aim (value own.machine)) (better_more aim (value own.machine)) (have j (low, omega (arith, lt, h.part.1)))
          (subst (λ (m : Machine). HasValue s value (IsBetter aim (value m)) (answers j)) same (h.before j low lt));
      after = λ j lt high.
          values_by s aim value count (states j) j n (answers j) (IsAsGood aim (value own.machine)) (good_more aim (value own.machine)) (have j (omega (arith, lt, h.part.0), high))
          (subst (λ (m : Machine). HasValue s value (IsAsGood aim (value m)) (answers j)) same (h.after j lt high));
    })
  where
    own : IsExtreme (part_of s k n) aim value count ks
    own = (subst (IsExtremeAnswer (part_of s k n) aim value count (states k)) h.found (have k h.part)).0

    same : h.machine ≡ own.machine
    same = same_machine (reached s ks) h.machine own.machine h.reaches (sym (same_from s (part_end (k - 1) n (length s.choices)) (part_end k n (length s.choices)) s.start ks) ∙ own.reaches)

pub whole_reaches : (s : SpaceContent) (aim : Aim) (value : Machine → ℤ) (count n : ℕ) (states : ℕ → ℕ) (answers : ℕ → Outcome) → 1 ≤ n → HaveExtremes s aim value count n states answers
    → ((k : ℕ) → IsPart k n → answers k ≡ nothing) → (ks : List ℕ) → AreChoices (whole s) ks → length ks ≡ count → reached (whole s) ks ≡ None
whole_reaches s aim value count n states answers some have h =
    no_part_reaches s n count some
    (λ k ks part are same. (subst (IsExtremeAnswer (part_of s k n) aim value count (states k)) (h k part) (have k part)).0 ks are same)
