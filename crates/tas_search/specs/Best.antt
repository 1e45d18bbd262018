-- Which sequence of a space is the best, and what else a search answers. Sequences are lists here; there are no layers.
use Rattle.std.specs.Prelude.{◌≡◌, ℕ, ◌+◌, ◌<◌, ◌≤◌, List, [], ◌∷◌, length, Bool, true, Option, Some, None}
use Rattle.vcs_machine.specs.Machine.{Machine}
use Rattle.tas_search.specs.Outcome.{Outcome, best, nothing, stopped}
use Rattle.tas_search.specs.Space.{SpaceContent, AreChoices, reached, rank}

-- there is a machine, and it passes the test
abbrev pub Passes : (Machine → Bool) → Option Machine → Type 0
Passes test None = ⊥
Passes test (Some m) = test m ≡ true

-- the machine after the sequence passes the test
abbrev pub Meets : SpaceContent → (Machine → Bool) → List ℕ → Type 0
Meets s goal ks = Passes goal (reached s ks)

-- no sequence of fewer than n choices meets the goal
abbrev pub NeedsAtLeast : SpaceContent → (Machine → Bool) → ℕ → Type 0
NeedsAtLeast s goal n = (ks : List ℕ) → AreChoices s ks → Meets s goal ks → n ≤ length ks

-- the sequence meets the goal, none does so with fewer choices, and of those with as many it is the first
pub record IsShortest (s : SpaceContent) (goal : Machine → Bool) (ks : List ℕ) : Type 0 where
  pub choices : AreChoices s ks
  pub meets : Meets s goal ks
  pub shortest : NeedsAtLeast s goal (length ks)
  pub first : (other : List ℕ) → AreChoices s other → Meets s goal other → length other ≡ length ks → rank s ks ≤ rank s other

-- the sequences have k choices, and each reaches a machine
abbrev pub AllReach : SpaceContent → ℕ → List (List ℕ) → Type 0
AllReach s k [] = Unit {0}
AllReach s k (ks ∷ rest) = AreChoices s ks × (length ks ≡ k) × (reached s ks ≡ None → ⊥) × AllReach s k rest

-- none of the others reaches what the sequence reaches
abbrev pub IsApart : SpaceContent → List ℕ → List (List ℕ) → Type 0
IsApart s ks [] = Unit {0}
IsApart s ks (other ∷ rest) = (reached s ks ≡ reached s other → ⊥) × IsApart s ks rest

-- no two of the sequences reach the same
abbrev pub AreApart : SpaceContent → List (List ℕ) → Type 0
AreApart s [] = Unit {0}
AreApart s (ks ∷ rest) = IsApart s ks rest × AreApart s rest

-- sequences of k choices reach more than n different machines
pub record ReachMoreThan (s : SpaceContent) (k n : ℕ) : Type 0 where
  pub sequences : List (List ℕ)
  pub reach : AllReach s k sequences
  pub apart : AreApart s sequences
  pub more : n < length sequences

-- sequences of 1, 2, .. up to n - 1 choices reach at most `states` different machines, those of each length by themselves
abbrev pub FitsBelow : SpaceContent → ℕ → ℕ → Type 0
FitsBelow s states n = (k : ℕ) → 1 ≤ k → k < n → ReachMoreThan s k states → ⊥

-- the answer to a search for the shortest sequence of at most `most` choices, which keeps at most `states` machines of one length: the shortest
-- one; that there is none; or the least number of choices that reach more machines than that, where no shorter sequence meets the goal
abbrev pub IsReachAnswer : SpaceContent → (Machine → Bool) → ℕ → ℕ → Outcome → Type 0
IsReachAnswer s goal most states (best ks) = IsShortest s goal ks × (length ks ≤ most) × FitsBelow s states (length ks + 1)
IsReachAnswer s goal most states nothing = NeedsAtLeast s goal (most + 1) × FitsBelow s states (most + 1)
IsReachAnswer s goal most states (stopped k) = NeedsAtLeast s goal k × FitsBelow s states k × (1 ≤ k) × (k ≤ most) × ReachMoreThan s k states
