-- What goes to the two writers of a search's report.
use Rattle.std.specs.Prelude.{◌≡◌, ℕ, List, Option, ◌⊎◌}
use Rattle.std.specs.Io.KnownBytes.{Appends}
use Rattle.byte_text.specs.CutOff.{IsCutOff}
use Rattle.tas_search.specs.declared.logs.Unfinished.{Unfinished}
use Rattle.tas_search.specs.declared.logs.Unfinished.TheVariants.{Report, Memory}

-- the bytes that they hold, where they are known
pub record LogBytes : Type 0 where
  pub errors : Option (List ℕ)
  pub report : Option (List ℕ)

-- these bytes
abbrev pub log_bytes : (errors report : Option (List ℕ)) → LogBytes
log_bytes errors report = record { errors = errors; report = report }

-- both have the text after what they held
pub record Logged (old new : LogBytes) (text : List ℕ) : Type 0 where
  pub errors : Appends old.errors new.errors text
  pub report : Appends old.report new.report text

-- the report has only the first bytes of the text, fewer than all, and standard error has none
pub record StopsInReport (old new : LogBytes) (text : List ℕ) : Type 0 where
  pub written : ℕ
  pub cut : IsCutOff old.report new.report text written
  pub errors : new.errors ≡ old.errors

-- the report has the text, and standard error only its first bytes, fewer than all
pub record StopsInErrors (old new : LogBytes) (text : List ℕ) : Type 0 where
  pub written : ℕ
  pub report : Appends old.report new.report text
  pub cut : IsCutOff old.errors new.errors text written

-- the text isn't written whole: one of the two lacks a part of it
abbrev pub StopsLogging : (old new : LogBytes) → List ℕ → Type 0
StopsLogging old new text = StopsInReport old new text ⊎ StopsInErrors old new text

-- how a search that isn't finished leaves the line that it would write next: it is begun only where the report is why
abbrev pub LeavesLine : Unfinished → (old new : LogBytes) → List ℕ → Type 0
LeavesLine Memory old new line = new ≡ old
LeavesLine Report old new line = StopsLogging old new line
