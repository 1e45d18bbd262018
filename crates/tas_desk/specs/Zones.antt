-- The greenzone of a seat, and its window.
use Rattle.std.specs.Prelude.{◌≡◌, ℕ, ◌+◌, ◌≤◌, List, [], length}
use Rattle.logbook.specs.Pages.{Book}
use Rattle.tas_movie.specs.Content.{MovieContent, blank_movie}
use Rattle.tas_green.specs.declared.savestate.Savestate.{Savestate}
use Rattle.tas_green.specs.Zone.{state_at, first_of}
use Rattle.tas_green.specs.Green.{IsLawful, IsMoved, IsShotFrom, HoldsGrid}
use Rattle.tas_green.specs.Grid.{stride}
use Rattle.tas_green.specs.View.{ViewContent, view_of}
use Rattle.tas_green.specs.Window.{AreMovieStates, IsWindowMoved, IsViewFrom, IsOneAway, both}
use Rattle.tas_published.specs.declared.entry.Entry.{Entry}
use Rattle.tas_published.specs.Version.{VersionContent, version_of}
use Rattle.tas_published.specs.History.{movie_of}

-- the history that it was made for, with its movie, the states that are kept, and those of the window beside them
pub record ZoneContent (A : Type 0) : Type 0 where
  pub made_for : VersionContent A
  pub movie : MovieContent
  pub states : List Savestate
  pub window : List Savestate

-- a view, made for the history of a version
abbrev pub zone_of : {A : Type 0} → VersionContent A → ViewContent → ZoneContent A
zone_of version view = record { made_for = version; movie = view.movie; states = view.states; window = view.near }

-- its view
abbrev pub view_in : {A : Type 0} → ZoneContent A → ViewContent
view_in zone = view_of zone.movie zone.states zone.window

-- the zone of a seat that made no call yet
abbrev pub blank_zone : {A : Type 0} → Book → ZoneContent A
blank_zone b = record { made_for = version_of b []; movie = blank_movie; states = []; window = [] }

-- a zone is cut for the new movie and gains just the other's states, this many
abbrev pub Shares : MovieContent → MovieContent → List Savestate → List Savestate → List Savestate → ℕ → Type 0
Shares old new zone other now gained =
    (left : List Savestate) × IsMoved old new zone left × ((f : ℕ) → state_at f now ≡ first_of (state_at f left) (state_at f other)) × (length now ≡ length left + gained)

-- a zone is made for this history now, and lawful for its movie, and the window's states are that movie's
pub record IsMadeFor {A : Type 0} (now : ZoneContent A) (front : List (Entry A)) : Type 0 where
  pub list : now.made_for.history ≡ front
  pub movie : now.movie ≡ movie_of front
  pub lawful : IsLawful now.movie now.states
  pub near : AreMovieStates now.movie now.window

-- a call cut the window for the zone's movie now, and did no more to it
abbrev pub CutsWindow : {A : Type 0} → ZoneContent A → ZoneContent A → Type 0
CutsWindow before now = IsWindowMoved before.movie now.movie before.window now.window

-- frame k of a history's movie was played from a zone: the zone was cut for that movie first, `ran` frames were played from the
-- nearest state that was left, and the zone then has what was left and the states on the way that stand on the grid
pub record IsPlayed {A : Type 0} (before now : ZoneContent A) (front : List (Entry A)) (k ran : ℕ) : Type 0 where
  pub made : IsMadeFor now front
  pub shot : IsShotFrom before.movie now.movie k before.states now.states 0 ran

-- a zone was cut for a history's movie, and then gained this many states of another zone that is lawful for it
pub record IsShared {A : Type 0} (before now : ZoneContent A) (front : List (Entry A)) (gained : ℕ) : Type 0 where
  pub made : IsMadeFor now front
  pub other : List Savestate
  pub others : IsLawful now.movie other
  pub gain : Shares before.movie now.movie before.states other now.states gained
  pub cut : CutsWindow before now

-- where all of the grid up to frame k stands in the zone once it is cut, no more than a stride's frames were played
pub record IsShort {A : Type 0} (before now : ZoneContent A) (k ran : ℕ) : Type 0 where
  pub most : (left : List Savestate) → IsMoved before.movie now.movie before.states left → HoldsGrid (stride (length now.movie.inputs)) k left → ran ≤ stride (length now.movie.inputs)

-- frame k of a history's movie was viewed: zone and window were cut for that movie, this many frames were played from `view_start`,
-- the zone is then as a shot leaves it, and the window is filled
pub record IsViewed {A : Type 0} (before now : ZoneContent A) (front : List (Entry A)) (k ran : ℕ) : Type 0 where
  pub made : IsMadeFor now front
  pub view : IsViewFrom before.movie now.movie k (both before.states before.window) (both now.states now.window) ran

-- a view of frame j of the zone's movie would play one frame
abbrev pub IsZoneAway : {A : Type 0} → ZoneContent A → ℕ → Type 0
IsZoneAway now j = IsOneAway now.movie j (both now.states now.window)
