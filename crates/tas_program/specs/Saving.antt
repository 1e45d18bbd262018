-- The output of a task that replaces a file.
use Rattle.std.specs.Prelude.{◌≡◌, ◌++◌, ℕ, false, List, [], ◌∷◌, Option, Some, None, Result, Ok, Err, if◌then◌else◌}
use Rattle.std.specs.Io.KnownBytes.{Appends}
use Rattle.std.specs.Str.{bytes_eq}
use Rattle.clap.specs.Walk.{Text}
use Rattle.tas_program.specs.declared.saving.SaveFault.{SaveFault}

-- the files of a directory, by their names: the bytes of each that is there
abbrev pub Files : Type 0
Files = Text → Option (List ℕ)

-- the same with one file changed: it has these bytes, or isn't there
abbrev pub put : Files → Text → Option (List ℕ) → Files
put files name bytes other = if bytes_eq other name then bytes else files other

-- the files after a new one without bytes, and after one that took the name of another
abbrev pub made : Text → Files → Files
made name files = put files name (Some [])

abbrev pub moved : (from to : Text) → Files → Files
moved from to files = put (put files to (files from)) from None

-- there was no file of this name, where that is known
abbrev pub WasAbsent : Text → Option Files → Type 0
WasAbsent name None = Unit {0}
WasAbsent name (Some files) = files name ≡ None

-- a name of a new file beside another one: that of the other one, and more
abbrev pub IsPart : (file part : Text) → Type 0
IsPart file part = (first : ℕ) × (end : Text) × (part ≡ file ++ first ∷ end)

-- a new file has no bytes, where the files are known
abbrev pub IsEmptyIn : Option Files → Option (List ℕ) → Type 0
IsEmptyIn None bytes = Unit {0}
IsEmptyIn (Some files) bytes = bytes ≡ Some []

-- ---- what was done to files

-- the calls that succeeded, by the names that they were given: a new file was made, whose writer held these bytes where they are known; what
-- its writer then held was brought to the disk; a file took another name
pub record FileSteps : Type 1 where
  pub made : Text → Option (List ℕ) → Type 0
  pub kept : Text → Option (List ℕ) → Type 0
  pub moved : (from to : Text) → Type 0

-- nothing is known of them
abbrev pub unknown_steps : FileSteps
unknown_steps = record { made = λ name held. Unit {0}; kept = λ name held. Unit {0}; moved = λ from to. Unit {0} }

-- a file was given these bytes: a new one was made beside it, they were written to that and brought to the disk, and it took the file's name
pub record IsGiven (steps : FileSteps) (name : Text) (bytes : List ℕ) : Type 0 where
  pub part : Text
  pub held : Option (List ℕ)
  pub held' : Option (List ℕ)
  pub beside : IsPart name part
  pub made : steps.made part held
  pub written : Appends held held' bytes
  pub kept : steps.kept part held'
  pub moved : steps.moved part name

-- ---- what comes of the files

-- this file has these bytes, and each other one is as it was
abbrev pub IsReplaced : Text → List ℕ → Files → Files → Type 0
IsReplaced name bytes old new = (new name ≡ Some bytes) × ((other : Text) → bytes_eq other name ≡ false → new other ≡ old other)

-- each file is as it was
abbrev pub AllStay : Files → Files → Type 0
AllStay old new = (other : Text) → new other ≡ old other

-- the same where they are known
abbrev pub WhereKnown : (Files → Files → Type 0) → Option Files → Option Files → Type 0
WhereKnown P None new = Unit {0}
WhereKnown P (Some old) None = ⊥
WhereKnown P (Some old) (Some new) = P old new

-- a file was given these bytes, and no other one was changed; or, with a fault, none at all
abbrev pub SaveEnds : FileSteps → Text → List ℕ → (old new : Option Files) → Result (Unit {0}) SaveFault → Type 0
SaveEnds steps name bytes old new (Ok _) = IsGiven steps name bytes × WhereKnown (IsReplaced name bytes) old new
SaveEnds steps name bytes old new (Err fault) = WhereKnown AllStay old new
