-- How a text is written after others.
use Rattle.std.specs.Prelude.{◌≡◌, ℕ, ◌-◌, ◌≤◌, List, length, take, count_by, Option}
use Rattle.std.specs.Io.KnownBytes.{Appends, Keeps}
use Rattle.byte_text.specs.CutOff.{IsCutOff}
use Rattle.tas_verify.specs.declared.fault.VerifyFault.{VerifyFault}
use Rattle.tas_verify.specs.declared.fault.VerifyFault.TheVariants.{Read, Manifest, Write, Memory}
use Rattle.tas_verify.specs.Manifest.{RowWords}
use Rattle.tas_verify.specs.Rows.{ShelfFacts}
use Rattle.tas_verify.specs.Lines.{RowEnd, AreOutcomes, end_lines, is_same}

-- memory was refused, and nothing is written; or a write failed, and only the first bytes are out, which are counted after those before
abbrev pub BreaksOff : (old new : Option (List ℕ)) → (text : List ℕ) → (before : ℕ) → VerifyFault → Type 0
BreaksOff old new text before (Write written) = (before ≤ written) × IsCutOff old new text (written - before)
BreaksOff old new text before Memory = Keeps old new
BreaksOff old new text before (Read fault) = ⊥
BreaksOff old new text before (Manifest line) = ⊥

-- what is written of the first movies: a line of each, and how many bytes and how many of them are the same
pub record SoFar (facts : ShelfFacts) (rows : List RowWords) (at : ℕ) (old now : Option (List ℕ)) (written same : ℕ) (ends : List RowEnd) : Type 0 where
  pub outcomes : AreOutcomes facts (take at rows) ends
  pub out : Appends old now (end_lines ends)
  pub count : written ≡ length (end_lines ends)
  pub same_is : same ≡ count_by (λ end. is_same end.outcome) ends
  pub most : same ≤ at
  pub within : at ≤ length rows
