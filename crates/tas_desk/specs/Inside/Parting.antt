-- How many entries there is room for in a part of the history.
use Rattle.std.specs.Prelude.{ℕ, ◌+◌, ◌<◌, ◌≤◌, List, length, take}
use Rattle.tas_movie.specs.Content.{most_inputs}
use Rattle.tas_published.specs.declared.entry.Entry.{Entry}
use Rattle.tas_desk.specs.Parts.{most_entries, inputs_in}

-- there is room for the first n entries, and for no more: there are no others, or one more would be too many, or put in too many inputs
pub record HasRoom {A : Type 0} (entries : List (Entry A)) (n : ℕ) : Type 0 where
  pub there : n ≤ length entries
  pub few : n ≤ most_entries
  pub fits : inputs_in (take n entries) ≤ most_inputs
  pub full : n < length entries → n < most_entries → most_inputs < inputs_in (take (n + 1) entries)
