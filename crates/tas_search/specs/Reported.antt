-- Which lines a search has reported by its end. All in them is defined by the space, but for how long each layer took: that is the clock's to say.
use Rattle.std.specs.Prelude.{◌≡◌, ℕ, suc, ◌+◌, ◌<◌, ◌≤◌, ◌⊎◌, List, length}
use Rattle.tas_search.specs.Best.{FitsBelow}
use Rattle.tas_search.specs.Outcome.{Outcome, best, nothing, stopped}
use Rattle.tas_search.specs.Space.{SpaceContent}
use Rattle.tas_search.specs.LayerLines.{state_count, layer_line, layer_lines}
use Rattle.tas_search.specs.Logs.{LogBytes, Logged, LeavesLine}
use Rattle.tas_search.specs.declared.logs.Unfinished.{Unfinished}
use Rattle.tas_search.specs.declared.logs.Unfinished.TheVariants.{Memory, Report}

-- the last of the layers that are searched: that of the sequence that was found; where there is none, that of the longest sequences, or the first without a
-- machine; and the one before that which has too many
abbrev pub IsLastLayer : SpaceContent → ℕ → Outcome → ℕ → Type 0
IsLastLayer s count (best ks) n = n ≡ length ks
IsLastLayer s count nothing n = (n ≤ count) × ((n ≡ count) ⊎ (state_count s n ≡ 0))
IsLastLayer s count (stopped k) n = n + 1 ≡ k

-- both writers have the line of each layer that was searched, in order, each with the time that it took
pub record IsReported (s : SpaceContent) (count : ℕ) (outcome : Outcome) (old new : LogBytes) : Type 0 where
  pub times : List ℕ
  pub is_last : IsLastLayer s count outcome (length times)
  pub full : (k : ℕ) → k < length times → 0 < state_count s k
  pub logged : Logged old new (layer_lines s times)

-- two reports of one space have as many lines, and these differ in nothing but how long each layer took
pub record DifferInTimes (old new old' new' : LogBytes) : Type 0 where
  pub space : SpaceContent
  pub times : List ℕ
  pub times' : List ℕ
  pub as_many : length times ≡ length times'
  pub logged : Logged old new (layer_lines space times)
  pub logged' : Logged old' new' (layer_lines space times')

-- a search can come to its layer after n choices: sequences can have as many, each layer before it has a machine, and no layer up to it has too many
pub record CanReach (s : SpaceContent) (count states n : ℕ) : Type 0 where
  pub within : n ≤ count
  pub full : (k : ℕ) → k < n → 0 < state_count s k
  pub fits : FitsBelow s states (n + 1)

-- how many lines are begun and may lack a part
abbrev pub begun : Unfinished → ℕ
begun Memory = 0
begun Report = 1

-- both have the whole line of a layer
abbrev pub HasLine : SpaceContent → ℕ → (old new : LogBytes) → Type 0
HasLine s n old new = (nanos : ℕ) × Logged old new (layer_line s n nanos)

-- a layer's line is left so
abbrev pub LeavesLayer : SpaceContent → ℕ → Unfinished → (old new : LogBytes) → Type 0
LeavesLayer s n why old new = (nanos : ℕ) × LeavesLine why old new (layer_line s n nanos)

-- a search isn't finished: both have the lines of some first layers, in order, and of the next one what was written until the report failed
pub record StopsReporting (s : SpaceContent) (count states : ℕ) (why : Unfinished) (old new : LogBytes) : Type 0 where
  pub times : List ℕ
  pub mid : LogBytes
  pub can : CanReach s count states (length times + begun why)
  pub whole : Logged old mid (layer_lines s times)
  pub next : LeavesLayer s (suc (length times)) why mid new
