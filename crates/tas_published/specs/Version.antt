-- Versions of the history.
use Rattle.std.specs.Prelude.{List}
use Rattle.logbook.specs.Pages.{Book}
use Rattle.tas_published.specs.declared.entry.Entry.{Entry}

-- a history, and the registry that has it under a number
pub record VersionContent (A : Type 0) : Type 0 where
  pub registry : Book
  pub history : List (Entry A)

abbrev pub version_of : {A : Type 0} → Book → List (Entry A) → VersionContent A
version_of b entries = record { registry = b; history = entries }
