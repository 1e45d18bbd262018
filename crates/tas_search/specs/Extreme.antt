-- Which sequence of exactly n choices has the greatest or the least value.
use Rattle.std.specs.Prelude.{◌≡◌, ℕ, ◌+◌, ◌≤◌, ℤ, ◌≤ℤ◌, List, length, Some, None}
use Rattle.vcs_machine.specs.Machine.{Machine}
use Rattle.tas_search.specs.declared.extremes.Aim.{Aim}
use Rattle.tas_search.specs.declared.extremes.Aim.TheVariants.{Most, Least}
use Rattle.tas_search.specs.Outcome.{Outcome, best, nothing, stopped}
use Rattle.tas_search.specs.Space.{SpaceContent, AreChoices, reached, rank}
use Rattle.tas_search.specs.Best.{FitsBelow, ReachMoreThan}

-- one value is as good as another, or better
abbrev pub IsAsGood : Aim → ℤ → ℤ → Type 0
IsAsGood Most a b = b ≤ℤ a
IsAsGood Least a b = a ≤ℤ b

-- the sequence of n choices that reaches a machine of the best value, the first of them
pub record IsExtreme (s : SpaceContent) (aim : Aim) (value : Machine → ℤ) (n : ℕ) (ks : List ℕ) : Type 0 where
  pub choices : AreChoices s ks
  pub count : length ks ≡ n
  pub machine : Machine
  pub reaches : reached s ks ≡ Some machine
  pub best : (other : List ℕ) (m : Machine) → AreChoices s other → length other ≡ n → reached s other ≡ Some m → IsAsGood aim (value machine) (value m)
  pub first : (other : List ℕ) (m : Machine) → AreChoices s other → length other ≡ n → reached s other ≡ Some m → value m ≡ value machine → rank s ks ≤ rank s other

-- the answer to a search for the best sequence of n choices, which keeps at most `states` machines of one length: it; that none of them
-- reaches a machine; or the least number of choices that reach more machines than that
abbrev pub IsExtremeAnswer : SpaceContent → Aim → (Machine → ℤ) → ℕ → ℕ → Outcome → Type 0
IsExtremeAnswer s aim value n states (best ks) = IsExtreme s aim value n ks × FitsBelow s states (n + 1)
IsExtremeAnswer s aim value n states nothing = ((ks : List ℕ) → AreChoices s ks → length ks ≡ n → reached s ks ≡ None) × FitsBelow s states (n + 1)
IsExtremeAnswer s aim value n states (stopped k) = FitsBelow s states k × (1 ≤ k) × (k ≤ n) × ReachMoreThan s k states
