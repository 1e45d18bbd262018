-- A movie with the states that are kept of it.
use Rattle.std.specs.Prelude.{◌≡◌, ℕ, ◌+◌, ◌≤◌, List, length}
use Rattle.tas_movie.specs.Content.{MovieContent}
use Rattle.tas_green.specs.declared.savestate.Savestate.{Savestate}
use Rattle.tas_green.specs.Grid.{most_states}
use Rattle.tas_green.specs.Green.{IsLawful, IsMoved}
use Rattle.tas_green.specs.Window.{AreMovieStates, IsWindowMoved, BothContent, both, most_near}

-- a movie, its kept states, and those of the window around the frame that was shown last
pub record ViewContent : Type 0 where
  pub movie : MovieContent
  pub states : List Savestate
  pub near : List Savestate

abbrev pub view_of : MovieContent → List Savestate → List Savestate → ViewContent
view_of movie states near = record { movie = movie; states = states; near = near }

-- the kept states are the movie's machine's and stand on its grid, and the window's are its machine's
pub record AreOfMovie (view : ViewContent) : Type 0 where
  pub states : IsLawful view.movie view.states
  pub near : AreMovieStates view.movie view.near

-- what the type keeps: the states are the movie's, and there is room for all that a movie may have and for one more, in each list, and for no more
pub record IsView (view : ViewContent) (size near_size : ℕ) : Type 0 where
  pub lawful : AreOfMovie view
  pub few : length view.near ≤ most_near
  pub room : size ≡ most_states + 1
  pub near_room : near_size ≡ most_near + 1

abbrev pub both_of : ViewContent → BothContent
both_of view = both view.states view.near

-- a view was brought to another movie: the states of both up to the shared front are left, those kept on the new grid
pub record IsBrought (before now : ViewContent) : Type 0 where
  pub states : IsMoved before.movie now.movie before.states now.states
  pub near : IsWindowMoved before.movie now.movie before.near now.near
