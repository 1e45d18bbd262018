-- A space in parts: of n parts, number k has its share of the first choices. Each part has the empty sequence.
use Rattle.std.specs.Prelude.{◌≡◌, ℕ, zero, suc, ◌+◌, ◌-◌, ◌*◌, ◌/◌, ◌^◌, ◌<◌, ◌≤◌, ℤ, Bool, List, length, Some}
use Rattle.vcs_machine.specs.Machine.{Machine}
use Rattle.tas_search.specs.declared.extremes.Aim.{Aim}
use Rattle.tas_search.specs.Space.{SpaceContent, reached}
use Rattle.tas_search.specs.Outcome.{Outcome, best, nothing, stopped}
use Rattle.tas_search.specs.Best.{IsReachAnswer}
use Rattle.tas_search.specs.Extreme.{IsAsGood, IsExtremeAnswer}

-- the parts are counted from 1
abbrev pub IsPart : (k n : ℕ) → Type 0
IsPart k n = (1 ≤ k) × (k ≤ n)

-- the number of the choice after those of the first k of n parts
abbrev pub part_end : (k n choices : ℕ) → ℕ
part_end k n choices = k * choices / n

-- part number k of n
abbrev pub part_of : SpaceContent → (k n : ℕ) → SpaceContent
part_of s k n = record s { low = part_end (k - 1) n (length s.choices); high = part_end k n (length s.choices) }

-- all sequences: part 1 of 1
abbrev pub whole : SpaceContent → SpaceContent
whole s = record s { low = 0; high = length s.choices }

-- how many sequences of some choices part number k of n has: the empty one, or those that go on from its first choices
abbrev pub sequence_count : (k n choices count : ℕ) → ℕ
sequence_count k n choices zero = 1
sequence_count k n choices (suc count) = (part_end k n choices - part_end (k - 1) n choices) * choices ^ count

-- ---- what the parts' answers say of the whole

-- each of n parts has its answer to a search for the shortest sequence, each with a limit of states of its own
abbrev pub HaveShortest : SpaceContent → (Machine → Bool) → (most n : ℕ) → (states : ℕ → ℕ) → (ℕ → Outcome) → Type 0
HaveShortest s goal most n states answers = (k : ℕ) → IsPart k n → IsReachAnswer (part_of s k n) goal most (states k) (answers k)

-- how many choices lead to the goal at least, by an answer
abbrev pub least_count : ℕ → Outcome → ℕ
least_count most (best ks) = length ks
least_count most nothing = most + 1
least_count most (stopped k) = k

-- part k has found a sequence, and by their answers no part before it has one of as many choices or fewer, and none after it one of fewer
pub record IsShortestPart (most n : ℕ) (answers : ℕ → Outcome) (k : ℕ) (ks : List ℕ) : Type 0 where
  pub part : IsPart k n
  pub found : answers k ≡ best ks
  pub before : (j : ℕ) → 1 ≤ j → j < k → length ks < least_count most (answers j)
  pub after : (j : ℕ) → k < j → j ≤ n → length ks ≤ least_count most (answers j)

-- each of n parts has its answer to a search for the best value of sequences of `count` choices, each with a limit of states of its own
abbrev pub HaveExtremes : SpaceContent → Aim → (Machine → ℤ) → (count n : ℕ) → (states : ℕ → ℕ) → (ℕ → Outcome) → Type 0
HaveExtremes s aim value count n states answers = (k : ℕ) → IsPart k n → IsExtremeAnswer (part_of s k n) aim value count (states k) (answers k)

-- one value is better than another
abbrev pub IsBetter : Aim → ℤ → ℤ → Type 0
IsBetter aim a b = IsAsGood aim a b × (b ≡ a → ⊥)

-- the value that was found, if there is one, passes a test; a search that stopped says nothing of values
abbrev pub HasValue : SpaceContent → (Machine → ℤ) → (ℤ → Type 0) → Outcome → Type 0
HasValue s value Test (best ks) = (m : Machine) → reached s ks ≡ Some m → Test (value m)
HasValue s value Test nothing = Unit {0}
HasValue s value Test (stopped k) = ⊥

-- part k has found a sequence, whose value is better than those of the parts before it, and as good as those of the parts after it
pub record IsBestPart (s : SpaceContent) (aim : Aim) (value : Machine → ℤ) (n : ℕ) (answers : ℕ → Outcome) (k : ℕ) (ks : List ℕ) : Type 0 where
  pub part : IsPart k n
  pub found : answers k ≡ best ks
  pub machine : Machine
  pub reaches : reached s ks ≡ Some machine
  pub before : (j : ℕ) → 1 ≤ j → j < k → HasValue s value (IsBetter aim (value machine)) (answers j)
  pub after : (j : ℕ) → k < j → j ≤ n → HasValue s value (IsAsGood aim (value machine)) (answers j)
