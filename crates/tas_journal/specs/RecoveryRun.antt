-- A recovery, from what its readers have and its writer holds before to what they have and hold afterwards.
use Rattle.std.specs.Prelude.{◌≡◌, ℕ, true, List, length, ◌⊎◌, Option, Result, Ok, Err}
use Rattle.std.specs.Io.KnownBytes.{Appends, Consumes, IsAtEnd, Keeps}
use Rattle.vcs_inputs.specs.Cart.{is_cart_size}
use Rattle.tas_movie.specs.Text.{text2}
use Rattle.tas_engines.specs.declared.fault.ReadFault.{ReadFault}
use Rattle.tas_engines.specs.declared.fault.ReadFault.TheVariants.{TooLong, Failed, Memory}
use Rattle.tas_engines.specs.declared.fault.RunFault.{RunFault}
use Rattle.tas_engines.specs.Input.{IfKnown, IsReadWhole, StopsReading}
use Rattle.tas_engines.specs.Output.{StopsWriting}
use Rattle.tas_engines.specs.Tracing.{IsImageFault}
use Rattle.tas_journal.specs.declared.fault.RecoveryFault.{RecoveryFault}
use Rattle.tas_journal.specs.declared.fault.RecoveryFault.TheVariants.{Read, Run, Journal}
use Rattle.tas_journal.specs.declared.recovering.Recovered.{Recovered}
use Rattle.tas_journal.specs.Recovery.{IsRecovered, IsUnrecovered}

-- ---- what is read

-- a journal was read to its end, however long it is: these bytes left the reader and none is left, so they are all that it had
pub record IsJournalRead (old new : Option (List ℕ)) (bytes : List ℕ) : Type 0 where
  pub left_reader : Consumes old new bytes
  pub none_is_left : IsAtEnd new
  pub are_all : IfKnown old (λ input. bytes ≡ input)

-- reading it stopped, where a read or a growth failed, and some of its first bytes left the reader
abbrev pub StopsInJournal : Option (List ℕ) → Option (List ℕ) → ReadFault → Type 0
StopsInJournal old new TooLong = ⊥
StopsInJournal old new Failed = (bytes : List ℕ) × Consumes old new bytes
StopsInJournal old new Memory = (bytes : List ℕ) × Consumes old new bytes

-- reading stopped: at the cartridge, and the journal is untouched; or the cartridge was read whole, and reading stopped in the journal
abbrev pub StopsReadingInputs : (cart cart' input input' : Option (List ℕ)) → ReadFault → Type 0
StopsReadingInputs cart cart' input input' fault =
    (StopsReading cart cart' fault × (input' ≡ input)) ⊎ ((image : List ℕ) × IsReadWhole cart cart' image × StopsInJournal input input' fault)

-- ---- what is answered

-- what is recovered from a journal with this image as its cartridge, and the text of its movie
pub record IsRecoveredText (A : Type 0) (until : ℕ) (image bytes text : List ℕ) (found : Recovered A) : Type 0 where
  pub size : is_cart_size (length image) ≡ true
  pub recovered : IsRecovered A bytes image until found.movie found.edits found.cut
  pub text_is : text ≡ text2 found.movie

-- why there is none: a wrong size of the cartridge comes before the journal and before out of memory
abbrev pub IsRecoveryFault : (A : Type 0) → ℕ → (image bytes : List ℕ) → RecoveryFault → Type 0
IsRecoveryFault A until image bytes (Read fault) = ⊥
IsRecoveryFault A until image bytes (Run fault) = IsImageFault image fault
IsRecoveryFault A until image bytes (Journal error) = (is_cart_size (length image) ≡ true) × IsUnrecovered A bytes image until error

-- a write of the text failed
pub record BreaksOff (A : Type 0) (until : ℕ) (image bytes : List ℕ) (old new : Option (List ℕ)) (fault : RecoveryFault) : Type 0 where
  pub text : List ℕ
  pub found : Recovered A
  pub answer : IsRecoveredText A until image bytes text found
  pub why : RunFault
  pub is : fault ≡ Run why
  pub stops : StopsWriting old new text why

-- how a recovery ends on what it has read: the text is written, and what was recovered is returned; or a fault is the answer, and nothing is written; or a write failed
abbrev pub Ends : (A : Type 0) → ℕ → (image bytes : List ℕ) → (old new : Option (List ℕ)) → Result (Recovered A) RecoveryFault → Type 0
Ends A until image bytes old new (Ok found) = (text : List ℕ) × IsRecoveredText A until image bytes text found × Appends old new text
Ends A until image bytes old new (Err fault) = (IsRecoveryFault A until image bytes fault × Keeps old new) ⊎ BreaksOff A until image bytes old new fault

-- reading stopped, and nothing is written; or cartridge and journal were read whole, in this order, and it ends on them
abbrev pub IsRecoveryRun : (A : Type 0) → ℕ → (cart cart' input input' output output' : Option (List ℕ)) → Result (Recovered A) RecoveryFault → Type 0
IsRecoveryRun A until cart cart' input input' output output' result =
    ((fault : ReadFault) × (result ≡ Err (Read fault)) × StopsReadingInputs cart cart' input input' fault × Keeps output output')
    ⊎ ((image bytes : List ℕ) × IsReadWhole cart cart' image × IsJournalRead input input' bytes × Ends A until image bytes output output' result)
