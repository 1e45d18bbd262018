-- Room for the states that a list gains. Private functions cite this file.
use Rattle.std.specs.Prelude.{◌≡◌, ◌⊎◌, ℕ, ◌+◌, ◌<◌, List, length, Some, true}
use Rattle.vcs_machine.specs.declared.state.State.{State}
use Rattle.tas_green.specs.declared.savestate.Savestate.{Savestate}
use Rattle.tas_green.specs.Zone.{state_at, IsRising, is_on_grid}

-- a list never gets full while it gains, one by one, the states of another list at multiples of the stride up to `last`
abbrev pub HasRoomToGain : ℕ → ℕ → List Savestate → List Savestate → ℕ → Type 0
HasRoomToGain stride last old new size =
    (now : List Savestate) → IsRising 0 now → length now < length old + length new
    → ((f : ℕ) (s : State) → state_at f now ≡ Some s → (state_at f old ≡ Some s) ⊎ (is_on_grid stride last f ≡ true)) → length now < size
