-- A run over many movies, from what its manifest's reader has and its writer holds before to what they have and hold afterwards.
use Rattle.std.specs.Prelude.{◌≡◌, ℕ, List, ◌++◌, ◌⊎◌, Option, Result, Ok, Err}
use Rattle.std.specs.Io.KnownBytes.{Appends, Keeps}
use Rattle.byte_text.specs.CutOff.{IsCutOff}
use Rattle.tas_engines.specs.declared.fault.ReadFault.{ReadFault}
use Rattle.tas_engines.specs.Input.{IsReadWhole, StopsReading}
use Rattle.tas_verify.specs.declared.fault.VerifyFault.{VerifyFault}
use Rattle.tas_verify.specs.declared.fault.VerifyFault.TheVariants.{Read, Manifest, Write, Memory}
use Rattle.tas_verify.specs.declared.lines.Tally.{Tally}
use Rattle.tas_verify.specs.declared.manifest.ManifestError.TheVariants.{Line}
use Rattle.tas_verify.specs.Manifest.{RowWords, IsManifest, IsManifestError}
use Rattle.tas_verify.specs.Rows.{ShelfFacts}
use Rattle.tas_verify.specs.Lines.{RowEnd, AreOutcomes, end_lines, tally_of, tally_line}

-- the first movies, and what came of them
pub record AreFirst (facts : ShelfFacts) (rows : List RowWords) (ends : List RowEnd) : Type 0 where
  pub front : List RowWords
  pub later : List RowWords
  pub parts : rows ≡ front ++ later
  pub outcomes : AreOutcomes facts front ends

-- what is written of all movies: a line each, in order, and the last line
abbrev pub report : List RowEnd → List ℕ
report ends = end_lines ends ++ tally_line (tally_of ends)

-- how it ends on these movies, where these are the ones of which lines are written, and what came of them: a line of each is written, in order,
-- and the last line; or the lines of the first ones alone, where memory is refused; or the first bytes of either, where a write fails
abbrev pub EndsWith : ShelfFacts → List RowWords → (old new : Option (List ℕ)) → Result Tally VerifyFault → List RowEnd → Type 0
EndsWith facts rows old new (Ok tally) ends = AreOutcomes facts rows ends × (tally ≡ tally_of ends) × Appends old new (report ends)
EndsWith facts rows old new (Err Memory) ends = AreFirst facts rows ends × Appends old new (end_lines ends)
EndsWith facts rows old new (Err (Write written)) ends =
    (AreFirst facts rows ends × IsCutOff old new (end_lines ends) written) ⊎ (AreOutcomes facts rows ends × IsCutOff old new (report ends) written)
EndsWith facts rows old new (Err _) ends = ⊥

-- it ends so with some of them
abbrev pub EndsOn : ShelfFacts → List RowWords → (old new : Option (List ℕ)) → Result Tally VerifyFault → Type 0
EndsOn facts rows old new result = (ends : List RowEnd) × EndsWith facts rows old new result ends

-- what comes of a manifest's bytes: they are none, and nothing is written; or it ends on the movies that they name
abbrev pub RunsOn : ShelfFacts → List ℕ → (old new : Option (List ℕ)) → Result Tally VerifyFault → Type 0
RunsOn facts bytes old new (Err (Manifest number)) = IsManifestError bytes (Line number) × Keeps old new
RunsOn facts bytes old new (Err (Read fault)) = ⊥
RunsOn facts bytes old new result = ((result ≡ Err Memory) × Keeps old new) ⊎ ((rows : List RowWords) × IsManifest bytes rows × EndsOn facts rows old new result)

-- reading the manifest stopped, and nothing is written; or it was read whole
abbrev pub IsVerifyRun : ShelfFacts → (input input' old new : Option (List ℕ)) → Result Tally VerifyFault → Type 0
IsVerifyRun facts input input' old new result =
    ((fault : ReadFault) × (result ≡ Err (Read fault)) × StopsReading input input' fault × Keeps old new)
    ⊎ ((bytes : List ℕ) × IsReadWhole input input' bytes × RunsOn facts bytes old new result)
