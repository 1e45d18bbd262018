-- What lies under the lock of a desk.
use Rattle.std.specs.Prelude.{List, [], ◌∷◌, ◌++◌, fold}
use Rattle.tas_green.specs.declared.savestate.Savestate.{Savestate}
use Rattle.tas_published.specs.declared.entry.Entry.{Entry}
use Rattle.tas_published.specs.History.{movie_of}
use Rattle.tas_session.specs.Session.{left_by}

-- the history, and the kept states
pub record LockedContent (A : Type 0) : Type 0 where
  pub journal : List (Entry A)
  pub zone : List Savestate

abbrev pub locked_of : {A : Type 0} → List (Entry A) → List Savestate → LockedContent A
locked_of journal zone = record { journal = journal; zone = zone }

-- after an entry: it stands at the history's end, and exactly those states are left that its edit leaves
abbrev pub locked_after : {A : Type 0} → LockedContent A → Entry A → LockedContent A
locked_after locked entry = record {
  journal = locked.journal ++ entry ∷ [];
  zone = left_by (movie_of locked.journal) entry.edit locked.zone;
}

-- after entries, one after the other
abbrev pub locked_after_all : {A : Type 0} → LockedContent A → List (Entry A) → LockedContent A
locked_after_all locked entries = fold locked_after locked entries
