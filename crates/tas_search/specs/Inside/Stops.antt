-- The number of frames of a layer at which a search stops.
use Rattle.std.specs.Prelude.{ℕ, ◌*◌, ◌<◌, ◌≤◌, ◌^◌}
use Rattle.tas_search.specs.Outcome.{Outcome, best, nothing, stopped}

-- a search stops after a choice or more, and its frames have a number below 2 to the power of 64
abbrev pub HasFrames : ℕ → Outcome → Type 0
HasFrames hold (best ks) = Unit {0}
HasFrames hold nothing = Unit {0}
HasFrames hold (stopped k) = (1 ≤ k) × (k * hold < 2 ^ 64)
