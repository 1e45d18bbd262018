-- Replies to exports.
use Rattle.std.specs.Prelude.{◌≡◌, ℕ, ◌+◌, ◌-◌, ◌≤◌, List, length, Option, Result, Ok, Err}
use Rattle.std.specs.Io.KnownBytes.{Appends}
use Rattle.byte_text.specs.CutOff.{IsCutOff}
use Rattle.tas_movie.specs.Content.{MovieContent}
use Rattle.tas_green.specs.declared.savestate.Savestate.{Savestate}
use Rattle.tas_green.specs.Green.{IsMoved}
use Rattle.tas_desk.specs.declared.export.Exported.{Exported}
use Rattle.tas_desk.specs.declared.export.ExportError.{ExportError}
use Rattle.tas_desk.specs.declared.export.ExportError.TheVariants.{Range, Memory, Halted, Write}
use Rattle.tas_film.specs.declared.runs.ExportPlan.{ExportPlan}
use Rattle.tas_film.specs.Frames.{AllDrawn, IsLeastHalted, pixmaps_of}
use Rattle.tas_film.specs.Runs.{costs}
use Rattle.tas_desk.specs.Zones.{ZoneContent}

-- how many frames one export has at most
abbrev pub most_exported : ℕ
most_exported = 1024

-- a movie of this length has all frames from `from` to the one before `to`, and they are few enough for one export
pub record IsInRange (len from to : ℕ) : Type 0 where
  pub order : from ≤ to
  pub within : to ≤ len
  pub few : to ≤ from + most_exported

-- all frames of a plan are drawn and written, and this many were played: each run from the nearest of the states that a cut for
-- the movie would leave in the zone
pub record IsExported {A : Type 0} (zone : ZoneContent A) (movie : MovieContent) (plan : ExportPlan) (old new : Option (List ℕ)) (played : ℕ) : Type 0 where
  pub range : IsInRange (length movie.inputs) plan.from plan.to
  pub written : Appends old new (pixmaps_of movie plan.from (plan.to - plan.from))
  pub drawn : AllDrawn movie plan.from plan.to
  pub left : List Savestate
  pub moved : IsMoved zone.movie movie zone.states left
  pub cost : played ≡ costs left plan 0 plan.workers

-- how an export of a movie that this many edits made ends, by a seat with this zone
abbrev pub IsExport : {A : Type 0} → ZoneContent A → MovieContent → ℕ → ExportPlan → Option (List ℕ) → Option (List ℕ) → Result Exported ExportError → Type 0
IsExport zone movie edits plan old new (Ok exported) = (exported.at ≡ edits) × IsExported zone movie plan old new exported.played
IsExport zone movie edits plan old new (Err (Range at len)) = (at ≡ edits) × (len ≡ length movie.inputs) × (IsInRange (length movie.inputs) plan.from plan.to → ⊥) × (new ≡ old)
IsExport zone movie edits plan old new (Err Memory) = IsInRange (length movie.inputs) plan.from plan.to × (new ≡ old)
IsExport zone movie edits plan old new (Err (Halted at frame halt)) = (at ≡ edits) × IsInRange (length movie.inputs) plan.from plan.to × IsLeastHalted movie plan.from plan.to (record { frame = frame; halt = halt }) × (new ≡ old)
IsExport zone movie edits plan old new (Err (Write written error)) = IsInRange (length movie.inputs) plan.from plan.to × AllDrawn movie plan.from plan.to × IsCutOff old new (pixmaps_of movie plan.from (plan.to - plan.from)) written
