-- The window of states around the frame that was shown last.
use Rattle.std.specs.Prelude.{◌≡◌, ℕ, ◌+◌, ◌/◌, ◌%◌, ◌==◌, ◌&&◌, ◌||◌, nat_le, max, List, length, filter, Some, Bool, true, if◌then◌else◌}
use Rattle.vcs_machine.specs.declared.state.State.{State}
use Rattle.tas_movie.specs.Content.{MovieContent}
use Rattle.tas_green.specs.declared.savestate.Savestate.{Savestate}
use Rattle.tas_green.specs.Run.{state_after}
use Rattle.tas_green.specs.Zone.{state_at, nearest, first_of, where_true}
use Rattle.tas_green.specs.Grid.{stride}
use Rattle.tas_green.specs.Front.{IsSharedFront}
use Rattle.tas_green.specs.Green.{IsPlayedFrom}
use Rattle.tas_green.specs.Batch.{AreStatesOf}

-- how many frames, up to the one shown last, have the state before them kept
abbrev pub most_before : ℕ
most_before = 64

-- further back a state is kept at each multiple of this distance, for this many frames
abbrev pub mark_distance : ℕ
mark_distance = 16

abbrev pub most_marked : ℕ
most_marked = 512

-- a bound of a window's states: 65 up to the place after the frame shown last, and 33 marks, of which 28 at most aren't among the 65
abbrev pub most_near : ℕ
most_near = 98

-- the frames rise, and each state is the movie's machine after that number of its frames
abbrev pub AreMovieStates : MovieContent → List Savestate → Type 0
AreMovieStates movie states = AreStatesOf movie.cart movie.inputs states

-- a place is not more than 64 before `end`, or it is a mark, a multiple of 16, not more than 512 before it; all after `end` are close, too
abbrev pub is_close : ℕ → ℕ → Bool
is_close end f = nat_le end (f + most_before) || ((f % mark_distance == 0) && nat_le end (f + most_marked))

-- which states are kept once the frame before the place `end` was shown: the one at this place, those at the 64 places before it,
-- and marks at the multiples of 16 among the 512 places before it
abbrev pub is_near : ℕ → ℕ → Bool
is_near end f = nat_le f end && is_close end f

-- which of these states are gained where the places above `from` up to `to` are passed
abbrev pub is_gained : ℕ → ℕ → ℕ → ℕ → Bool
is_gained end from to f = nat_le (from + 1) f && (nat_le f to && is_close end f)

-- all of the states are near a place
abbrev pub AreNear : ℕ → List Savestate → Type 0
AreNear end states = (f : ℕ) (s : State) → state_at f states ≡ Some s → is_near end f ≡ true

-- a greenzone, and the window beside it
pub record BothContent : Type 0 where
  pub green : List Savestate
  pub window : List Savestate

abbrev pub both : List Savestate → List Savestate → BothContent
both green window = record { green = green; window = window }

-- where frame k is played from: the later one of the nearest states of both, as long as no place of the grid comes after the
-- greenzone's, up to it; else the greenzone's
abbrev pub start_between : ℕ → ℕ → ℕ → ℕ
start_between stride kept near = if near / stride == kept / stride then max kept near else kept

abbrev pub view_start : MovieContent → ℕ → BothContent → ℕ
view_start movie k states = start_between (stride (length movie.inputs)) (nearest k states.green) (nearest k states.window)

-- what a window of the old movie leaves for the new one: the states up to the shared front
abbrev pub IsWindowMoved : MovieContent → MovieContent → List Savestate → List Savestate → Type 0
IsWindowMoved old new window left = (at : ℕ) × IsSharedFront old new at × (left ≡ filter (λ kept. nat_le kept.frame at) window)

-- the states near the place `end` are kept, and those near it are gained that were played from `start` on
abbrev pub IsFilled : MovieContent → ℕ → ℕ → List Savestate → List Savestate → Type 0
IsFilled movie start end left now =
    (f : ℕ) → state_at f now ≡ first_of (where_true (is_near end f) (state_at f left)) (where_true (is_gained end start end f) (Some (state_after movie f)))

-- what playing up to the place `end` does to a greenzone and a window of the old movie. Both are cut for the new one. `ran` frames were played from
-- `view_start`, for k. The greenzone is then as if they had been played from its nearest state, and the window is filled
pub record IsPlayedNear (old new : MovieContent) (k end : ℕ) (before now : BothContent) (ran : ℕ) : Type 0 where
  pub rose : ℕ
  pub played : IsPlayedFrom old new k end before.green now.green 0 rose
  pub left : List Savestate
  pub moved : IsWindowMoved old new before.window left
  pub start : ran + view_start new k (both played.left left) ≡ end
  pub filled : IsFilled new (view_start new k (both played.left left)) end left now.window

-- what a view of frame k does to both
abbrev pub IsViewFrom : MovieContent → MovieContent → ℕ → BothContent → BothContent → ℕ → Type 0
IsViewFrom old new k before now ran = IsPlayedNear old new k (k + 1) before now ran

-- what reaching the state after k frames does to both
abbrev pub IsStateFrom : MovieContent → MovieContent → ℕ → BothContent → BothContent → ℕ → Type 0
IsStateFrom old new k before now ran = IsPlayedNear old new k k before now ran

-- a view of frame j would play one frame
abbrev pub IsOneAway : MovieContent → ℕ → BothContent → Type 0
IsOneAway movie j states = view_start movie j states ≡ j
