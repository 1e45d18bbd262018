-- Parts of an export: the copy of the movie, and the reply.
use Rattle.std.specs.Prelude.{◌≡◌, ℕ, ◌≤◌, length, Result, Ok, Err}
use Rattle.tas_movie.specs.Content.{MovieContent, most_inputs}
use Rattle.tas_desk.specs.declared.export.Exported.{Exported}
use Rattle.tas_desk.specs.declared.export.ExportError.{ExportError}
use Rattle.tas_desk.specs.declared.export.ExportError.TheVariants.{Range, Memory, Halted, Write}
use Rattle.tas_film.specs.declared.exporting.ExportFault.{ExportFault}
use Rattle.tas_film.specs.declared.exporting.ExportFault.TheVariants.{Memory as MemoryFault, Halted as HaltedFault, Write as WriteFault}
use Rattle.tas_desk.specs.Exports.{IsInRange}

-- a copy of a movie that this many edits made, where it has these frames
abbrev pub FoundRange : MovieContent → ℕ → ℕ → ℕ → Result (ℕ × MovieContent) ExportError → Type 0
FoundRange movie edits from to (Ok found) = (found.0 ≡ edits) × (found.1 ≡ movie) × IsInRange (length movie.inputs) from to × (length movie.inputs ≤ most_inputs)
FoundRange movie edits from to (Err (Range at len)) = (at ≡ edits) × (len ≡ length movie.inputs) × (IsInRange (length movie.inputs) from to → ⊥)
FoundRange movie edits from to (Err Memory) = IsInRange (length movie.inputs) from to
FoundRange movie edits from to (Err (Halted at frame halt)) = ⊥
FoundRange movie edits from to (Err (Write written error)) = ⊥

-- the reply to an export of a movie that this many edits made, by how its frames were written
abbrev pub end_at : ℕ → Result ℕ ExportFault → Result Exported ExportError
end_at at (Ok played) = Ok (record { at = at; played = played })
end_at at (Err MemoryFault) = Err Memory
end_at at (Err (HaltedFault halted)) = Err (Halted at halted.frame halted.halt)
end_at at (Err (WriteFault written error)) = Err (Write written error)
