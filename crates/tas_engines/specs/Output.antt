-- What an engine writes, and how it ends.
use Rattle.std.specs.Prelude.{◌≡◌, ℕ, List, Option, Result, Ok, Err, ◌⊎◌}
use Rattle.std.specs.Io.KnownBytes.{Appends, Keeps}
use Rattle.byte_text.specs.CutOff.{IsCutOff}
use Rattle.tas_engines.specs.declared.fault.ReadFault.{ReadFault}
use Rattle.tas_engines.specs.declared.fault.RunFault.{RunFault}
use Rattle.tas_engines.specs.declared.fault.RunFault.TheVariants.{Write}
use Rattle.tas_engines.specs.declared.fault.ToolFault.{ToolFault}
use Rattle.tas_engines.specs.declared.fault.ToolFault.TheVariants.{Read}
use Rattle.tas_engines.specs.Faults.{reported}

-- a write failed: only the first bytes went out, and the fault reports how many
pub record StopsWriting (old new : Option (List ℕ)) (bytes : List ℕ) (fault : RunFault) : Type 0 where
  pub written : ℕ
  pub is_write : fault ≡ Write written
  pub cut : IsCutOff old new bytes written

-- a write of an answer failed
pub record BreaksOff (answers : Result (List ℕ) RunFault → Type 0) (old new : Option (List ℕ)) (fault : RunFault) : Type 0 where
  pub bytes : List ℕ
  pub answer : answers (Ok bytes)
  pub stops : StopsWriting old new bytes fault

-- how an engine ends on what it has read: its answer is written; or a fault is its answer, and nothing is written; or a write failed
abbrev pub Ends : (Result (List ℕ) RunFault → Type 0) → Option (List ℕ) → Option (List ℕ) → Result (Unit {0}) RunFault → Type 0
Ends answers old new (Ok _) = (bytes : List ℕ) × answers (Ok bytes) × Appends old new bytes
Ends answers old new (Err fault) = (answers (Err fault) × Keeps old new) ⊎ BreaksOff answers old new fault

-- how an engine ends: reading stopped, and nothing is written; or it ran on what it had read, and reports how that ended
abbrev pub EndsAfter : (ReadFault → Type 0) → (Result (Unit {0}) RunFault → Type 0) → Option (List ℕ) → Option (List ℕ) → Result (Unit {0}) ToolFault → Type 0
EndsAfter stops runs old new result =
    ((fault : ReadFault) × (result ≡ Err (Read fault)) × stops fault × Keeps old new) ⊎ ((end : Result (Unit {0}) RunFault) × (result ≡ reported end) × runs end)
