-- Sequences of one length reach no more different machines than their layer has, and after an empty layer there are none.
use Rattle.std.proofs.Common.{◌≡◌, ℕ, zero, suc, ◌+◌, ◌-◌, ◌≤◌, List, [], ◌∷◌, length, Option, Some, None, refl, sym, ap, subst, ◌∙◌, inl, inr, arith}
use Rattle.std.specs.Prelude.{◌⊎◌, Bool}
use Rattle.std.proofs.lemmas.Bool.{cases_eq, cases_lt}
use Rattle.vcs_machine.specs.Machine.{Machine}
use Rattle.tas_search.specs.declared.arrival.Arrival.{Arrival}
use Rattle.tas_search.specs.declared.arrival.Step.{Step}
use Rattle.tas_search.specs.Space.{SpaceContent, AreChoices, reached, rank}
use Rattle.tas_search.specs.Best.{Passes, NeedsAtLeast, AllReach, IsApart, AreApart, ReachMoreThan, FitsBelow}
use Rattle.tas_search.specs.Inside.Layers.{Reached, grown, layer_of}
use Rattle.tas_search.specs.Inside.Arrivals.{IsFrontier}
use Rattle.tas_search.proofs.LayerLemmas.{Covers, layer_covers, layer_more}
use Rattle.tas_search.proofs.ReachLemmas.{layer_length}

-- ---- members

-- a layer has this machine
abbrev Has : List Reached → Machine → Type 0
Has [] m = ⊥
Has (r ∷ rs) m = (r.machine ≡ m) ⊎ Has rs m

-- the others, where it has it
without : (rs : List Reached) (m : Machine) → Has rs m → List Reached
without [] m h = absurd h
without (r ∷ rs) m (inl e) = rs
without (r ∷ rs) m (inr h) = r ∷ without rs m h

without_length : (rs : List Reached) (m : Machine) (h : Has rs m) → length rs ≡ suc (length (without rs m h))
unfolding without
without_length [] m h = absurd h
without_length (r ∷ rs) m (inl e) = refl
without_length (r ∷ rs) m (inr h) = ap suc (without_length rs m h)

still_has : (rs : List Reached) (m o : Machine) (h : Has rs m) → Has rs o → (m ≡ o → ⊥) → Has (without rs m h) o
unfolding without
still_has [] m o h g ne = absurd h
still_has (r ∷ rs) m o (inl e) (inl f) ne = absurd (ne (sym e ∙ f))
still_has (r ∷ rs) m o (inl e) (inr g) ne = g
still_has (r ∷ rs) m o (inr h) (inl f) ne = inl f
still_has (r ∷ rs) m o (inr h) (inr g) ne = inr (still_has rs m o h g ne)

module _ (s : SpaceContent) where
  -- each sequence reaches a machine that a layer has
  abbrev AreHad : List Reached → List (List ℕ) → Type 0
  AreHad rs [] = Unit {0}
  AreHad rs (ks ∷ rest) = ((m : Machine) × (reached s ks ≡ Some m) × Has rs m) × AreHad rs rest

  still_had : (rs : List Reached) (ks : List ℕ) (m : Machine) (h : Has rs m) (rest : List (List ℕ)) → reached s ks ≡ Some m → IsApart s ks rest → AreHad rs rest → AreHad (without rs m h) rest
  still_had rs ks m h [] e apart had = tt
  still_had rs ks m h (other ∷ rest) e apart had = (
    (had.0.0, had.0.1, still_has rs m had.0.0 h had.0.2 (λ same. apart.0 (e ∙ ap (λ (x : Machine). Some x) same ∙ sym had.0.1))),
    still_had rs ks m h rest e apart.1 had.1,
  )

  -- as many different machines need as many members
  no_more : (rs : List Reached) (seqs : List (List ℕ)) → AreHad rs seqs → AreApart s seqs → length seqs ≤ length rs
  no_more rs [] had apart = omega arith
  no_more rs (ks ∷ rest) had apart =
      let others : length rest ≤ length (without rs had.0.0 had.0.2) =
      no_more (without rs had.0.0 had.0.2) rest (still_had rs ks had.0.0 had.0.2 rest had.0.1 apart.0 had.1) apart.1 in
      omega (arith, others, without_length rs had.0.0 had.0.2)

  has_covered : (rs : List Reached) (m : Machine) (q : ℕ) → Covers s rs m q → Has rs m
  has_covered [] m q c = absurd c
  has_covered (r ∷ rs) m q (inl c) = inl c.0
  has_covered (r ∷ rs) m q (inr c) = inr (has_covered rs m q c)

  some_machine : (o : Option Machine) → (o ≡ None → ⊥) → (m : Machine) × (o ≡ Some m)
  some_machine None h = absurd (h refl)
  some_machine (Some m) h = (m, refl)

  had_by_layer : (k : ℕ) (seqs : List (List ℕ)) → AllReach s k seqs → AreHad (layer_of s k) seqs
  had_by_layer k [] h = tt
  had_by_layer k (ks ∷ rest) h =
      let there = some_machine (reached s ks) h.2 in (
        (
          there.0,
          there.1,
          subst (λ (n : ℕ). Has (layer_of s n) there.0) h.1 (has_covered (layer_of s (length ks)) there.0 (rank s ks) (layer_covers s ks there.0 h.0 there.1)),
        ),
        had_by_layer k rest h.3,
      )

  -- a layer within the limit
  pub layer_fits : (k states : ℕ) → length (layer_of s k) ≤ states → ReachMoreThan s k states → ⊥
  layer_fits k states le over =
      let all : length over.sequences ≤ length (layer_of s k) = no_more (layer_of s k) over.sequences (had_by_layer k over.sequences over.reach) over.apart in
      absurd (omega (arith, all, over.more))

  -- ---- lengths within the limit

  pub none_below : (states : ℕ) → FitsBelow s states 1
  none_below states = λ k from to over. absurd (omega arith)

  pub fits_more : (states n : ℕ) → FitsBelow s states n → (ReachMoreThan s n states → ⊥) → FitsBelow s states (n + 1)
  fits_more states n below here = λ k from to over.
      elim (cases_eq k n) [
        | inl e ↦ here (subst (λ (j : ℕ). ReachMoreThan s j states) e over)
        | inr ne ↦ below k from (omega arith) over
      ]

  -- the layer after those within the limit is within it too
  pub fits_here : (states d depth : ℕ) → depth ≡ d + 1 → FitsBelow s states (d + 1) → (ReachMoreThan s depth states → ⊥) → FitsBelow s states (depth + 1)
  fits_here states d depth e below here = fits_more states depth (subst (FitsBelow s states) (sym e) below) here

  -- ---- after an empty layer

  no_members : (rs : List Reached) → length rs ≡ 0 → rs ≡ []
  no_members [] e = refl
  no_members (r ∷ rs) e = absurd (omega arith)

  empty_more : (d n : ℕ) → length (layer_of s d) ≡ 0 → length (layer_of s (d + n)) ≡ 0
  empty_more zero n e = absurd (omega (arith, e))
  empty_more (suc d) zero e = let same : suc d ≡ suc d + 0 = omega arith in subst (λ (k : ℕ). length (layer_of s k) ≡ 0) same e
  empty_more (suc d) (suc n) e =
      let sum : suc d + n ≡ suc (d + n) = omega arith in
      let more : suc (suc (d + n)) ≡ suc d + suc n = omega arith in
      let before : length (layer_of s (suc (d + n))) ≡ 0 = subst (λ (k : ℕ). length (layer_of s k) ≡ 0) sum (empty_more (suc d) n e) in
      subst (λ (k : ℕ). length (layer_of s k) ≡ 0) more (ap length (layer_more s (d + n) ∙ ap (grown s) (no_members (layer_of s (suc (d + n))) before)))

  empty_after : (d k : ℕ) → length (layer_of s d) ≡ 0 → d ≤ k → length (layer_of s k) ≡ 0
  empty_after d k e le = subst (λ (n : ℕ). length (layer_of s n) ≡ 0) (omega arith) (empty_more d (k - d) e)

  has_none : (rs : List Reached) (m : Machine) → length rs ≡ 0 → Has rs m → ⊥
  has_none [] m e h = h
  has_none (r ∷ rs) m e h = absurd (omega arith)

  -- no sequence of as many choices reaches anything, and no longer one
  pub nothing_after : (d : ℕ) (ks : List ℕ) → length (layer_of s d) ≡ 0 → AreChoices s ks → d ≤ length ks → reached s ks ≡ None
  nothing_after d ks e are le = cases (reached s ks) refl
    where
      cases : (o : Option Machine) → reached s ks ≡ o → o ≡ None
      cases None is = refl
      cases (Some m) is =
          absurd (has_none (layer_of s (length ks)) m (empty_after d (length ks) e le) (has_covered (layer_of s (length ks)) m (rank s ks) (layer_covers s ks m are is)))

  pub fits_after : (states d n : ℕ) → length (layer_of s d) ≡ 0 → FitsBelow s states d → FitsBelow s states n
  fits_after states d n e below = λ k from to over.
      elim (cases_lt k d) [
        | inl before ↦ below k from before over
        | inr after ↦ layer_fits k states (omega (arith, empty_after d k e after)) over
      ]

  none_passes : (goal : Machine → Bool) (o : Option Machine) → o ≡ None → Passes goal o → ⊥
  none_passes goal None e h = h
  none_passes goal (Some m) e h = absurd cc

  pub needs_after : (goal : Machine → Bool) (d n : ℕ) → length (layer_of s d) ≡ 0 → NeedsAtLeast s goal d → NeedsAtLeast s goal n
  needs_after goal d n e least = λ ks are meets.
      absurd (none_passes goal (reached s ks) (nothing_after d ks e are (least ks are meets)) meets)

-- ---- frontiers

-- a frontier within the limit
pub frontier_fits : (s : SpaceContent) (depth place most : ℕ) (parents : List Step) (bs : List Arrival) → IsFrontier s depth place parents bs → length bs ≤ most → ReachMoreThan s depth most → ⊥
frontier_fits s depth place most parents bs frontier le over =
    layer_fits s depth most (omega (arith, layer_length s depth place parents bs frontier)) over
