-- Replies to looks at the machine's state.
use Rattle.std.specs.Prelude.{◌≡◌, ℕ, ◌≤◌, List, length, Result, Ok, Err}
use Rattle.tas_green.specs.Run.{state_after}
use Rattle.tas_green.specs.Window.{IsStateFrom, both}
use Rattle.tas_published.specs.declared.entry.Entry.{Entry}
use Rattle.tas_session.specs.declared.replies.Reached.{Reached}
use Rattle.tas_published.specs.declared.errors.StateError.{StateError}
use Rattle.tas_published.specs.declared.errors.StateError.TheVariants.{NoEntry, NoFrame, Memory}
use Rattle.tas_published.specs.History.{movie_of}
use Rattle.tas_desk.specs.Zones.{ZoneContent, IsMadeFor}
use Rattle.tas_desk.specs.Seats.{SeatContent}

-- the machine in which frame `from` begins, where the movie has all frames from it to the one before `to`, or why it wasn't reached;
-- without an entry nothing is said
abbrev pub IsStateFor : {A : Type 0} → List (Entry A) → ℕ → ℕ → Result Reached StateError → Type 0
IsStateFor history from to (Ok reached) = (from ≤ to) × (to ≤ length (movie_of history).inputs) × (reached.state ≡ state_after (movie_of history) from) × (reached.at ≡ length history)
IsStateFor history from to (Err NoEntry) = Unit {0}
IsStateFor history from to (Err (NoFrame at len)) = (at ≡ length history) × (len ≡ length (movie_of history).inputs) × (from ≤ to → to ≤ len → ⊥)
IsStateFor history from to (Err Memory) = (from ≤ to) × (to ≤ length (movie_of history).inputs)

-- the state after k frames of a history's movie was reached: zone and window were cut for that movie, `ran` frames were played from `view_start`, the
-- zone then has what was left and the states on the way that stand on the grid, and the window is filled
pub record IsReached {A : Type 0} (before now : ZoneContent A) (front : List (Entry A)) (k ran : ℕ) : Type 0 where
  pub made : IsMadeFor now front
  pub reach : IsStateFrom before.movie now.movie k (both before.states before.window) (both now.states now.window) ran

-- what this leaves in the seat's zone. Where the reader got no entry the seat is as it was
abbrev pub IsZoneReached : {A : Type 0} → SeatContent A → SeatContent A → ℕ → Result Reached StateError → Type 0
IsZoneReached before now k (Ok reached) = IsReached before.zone now.zone now.front k reached.ran
IsZoneReached before now k (Err NoEntry) = now ≡ before
IsZoneReached before now k (Err (NoFrame at len)) = now.zone ≡ before.zone
IsZoneReached before now k (Err Memory) = now.zone ≡ before.zone
