-- How the frames of a plan fail to be written.
use Rattle.std.specs.Prelude.{◌≡◌, ℕ, ◌-◌, List, Option}
use Rattle.byte_text.specs.CutOff.{IsCutOff}
use Rattle.tas_movie.specs.Content.{MovieContent}
use Rattle.tas_film.specs.declared.exporting.ExportFault.{ExportFault}
use Rattle.tas_film.specs.declared.exporting.ExportFault.TheVariants.{Memory, Halted, Write}
use Rattle.tas_film.specs.declared.runs.ExportPlan.{ExportPlan}
use Rattle.tas_film.specs.Frames.{AllDrawn, IsLeastHalted, IsRefused, pixmaps_of}

-- after being out of memory and after a halt nothing is written; where something is, no frame is halted
abbrev pub IsExportFault : MovieContent → ExportPlan → Option (List ℕ) → Option (List ℕ) → ExportFault → Type 0
IsExportFault movie plan old new Memory = new ≡ old
IsExportFault movie plan old new (Halted halted) = IsLeastHalted movie plan.from plan.to halted × (new ≡ old)
IsExportFault movie plan old new (Write written error) = AllDrawn movie plan.from plan.to × IsCutOff old new (pixmaps_of movie plan.from (plan.to - plan.from)) written

-- why frames weren't written for which there was room: as above, but memory is refused only at a frame up to which none is halted
abbrev pub IsRunsFault : MovieContent → ExportPlan → Option (List ℕ) → Option (List ℕ) → ExportFault → Type 0
IsRunsFault movie plan old new Memory = IsRefused movie plan.from plan.to × (new ≡ old)
IsRunsFault movie plan old new (Halted halted) = IsExportFault movie plan old new (Halted halted)
IsRunsFault movie plan old new (Write written error) = IsExportFault movie plan old new (Write written error)
