-- What contracts see of the program's files.
use Rattle.std.specs.Prelude.{◌≡◌, ℕ, List, Option, map}
use Rattle.tas_seat.specs.Lines.{DoorEnds}
use Rattle.tas_words.specs.Task.{pairs_in}
use Rattle.tas_words.specs.declared.task.Pair.{Pair}
use Rattle.tas_words.specs.declared.task.Pairs.{Pairs}
use Rattle.tas_program.specs.declared.folder.OrdinaryFile.{OrdinaryFile}

-- the bytes of the file of each name, and those that it holds when it is opened for writing, where they are known; and whether it is an
-- ordinary file, and which, where that is known
pub record FileBytes : Type 0 where
  pub read : List ℕ → Option (List ℕ)
  pub held : List ℕ → Option (List ℕ)
  pub shown : List ℕ → Option (Option OrdinaryFile)

-- the same by three such functions
abbrev pub files_by : (read held : List ℕ → Option (List ℕ)) → (shown : List ℕ → Option (Option OrdinaryFile)) → FileBytes
files_by read held shown = record { read = read; held = held; shown = shown }

-- what an output holds is held by a writer of the files of a folder, by the bytes that each of these holds: what was written to it has reached the file
-- that was opened, and none of it is kept elsewhere
abbrev pub Reaches : {S : Type 0} → (S → Option (List ℕ)) → Option (List ℕ) → Type 0
Reaches {S = S} contents output = (sink : S) × (contents sink ≡ output)

-- the ends of a desk's pair: the bytes of its first file, and those that its second one holds
abbrev pub ends_by : FileBytes → Pair → DoorEnds
ends_by files pair = record { given = files.read pair.input.now; held = files.held pair.output.now }

-- those of its pairs, in order
abbrev pub ends_of : FileBytes → Pairs → List DoorEnds
ends_of files pairs = map (ends_by files) (pairs_in pairs)
