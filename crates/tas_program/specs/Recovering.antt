-- A recovery: the cartridge and the journal that it reads, what it writes, the file that the movie's cartridge replaces, and what it reports to standard error.
use Rattle.std.specs.Prelude.{◌≡◌, ◌++◌, ◌-◌, ◌^◌, ◌⊎◌, ℕ, Bool, true, false, List, Option, Some, None, Result, Ok, Err, codes, decimal}
use Rattle.std.specs.Borrow.{Bor}
use Rattle.std.specs.Global.{Global as GlobalType}
use Rattle.tas_engines.specs.declared.fault.RunFault.TheVariants.{Memory}
use Rattle.tas_engines.specs.declared.fault.ToolFault.TheVariants.{Read}
use Rattle.tas_engines.specs.declared.fault.ReadFault.TheVariants.{Failed}
use Rattle.tas_journal.specs.declared.fault.RecoveryFault.{RecoveryFault}
use Rattle.tas_journal.specs.declared.recovering.Recovered.{Recovered}
use Rattle.tas_journal.specs.RecoveryRun.{IsRecoveryRun}
use Rattle.tas_words.specs.declared.task.RecoveryWords.{RecoveryWords}
use Rattle.tas_program.specs.declared.saving.SaveFault.{SaveFault}
use Rattle.tas_program.specs.declared.status.TaskFault.{TaskFault}
use Rattle.tas_program.specs.declared.status.TaskFault.TheVariants.{Tool, Recover as NotRecovered, Image as NotKept, Report}
use Rattle.tas_program.specs.Files.{FileBytes}
use Rattle.tas_program.specs.Saving.{Files, FileSteps, SaveEnds}
use Rattle.tas_program.specs.Searching.{Reports}
use Rattle.tas_program.specs.Streams.{StreamBytes}

-- the first line of a journal that is left out: the one that is named, or none, since no journal has so many
abbrev pub first_left_out : Option ℕ → ℕ
first_left_out None = 2 ^ 64 - 1
first_left_out (Some line) = line

-- ---- the movie

-- the end of a task that is a recovery, up to its movie: what was recovered, or why nothing was
abbrev pub recovered_end : Result (Recovered GlobalType) RecoveryFault → Result (Recovered GlobalType) TaskFault
recovered_end (Ok found) = Ok found
recovered_end (Err fault) = Err (NotRecovered fault)

-- a recovery runs over a cartridge that is open and the journal on the input: it writes the movie's text to the output
abbrev pub RecoversOver : Option ℕ → (cart cart' input input' output output' : Option (List ℕ)) → Result (Recovered GlobalType) TaskFault → Type 0
RecoversOver until cart cart' input input' output output' end =
    (done : Result (Recovered GlobalType) RecoveryFault) × (end ≡ recovered_end done) × IsRecoveryRun GlobalType (first_left_out until) cart cart' input input' output output' done

-- a recovery ends: its cartridge can't be opened, and no stream is read or written; or it runs over it
abbrev pub Recovers : FileBytes → RecoveryWords → StreamBytes → StreamBytes → Result (Recovered GlobalType) TaskFault → Type 0
Recovers files words old new end =
    ((end ≡ Err (Tool (Read Failed))) × (new ≡ old))
    ⊎ ((left : Option (List ℕ)) × RecoversOver words.until (files.read words.cart.now) left old.input new.input old.output new.output end)

-- ---- the file of its cartridge

-- the end of a task whose cartridge was to replace a file
abbrev pub image_end : Result (Unit {0}) SaveFault → Result (Unit {0}) TaskFault
image_end (Ok u) = Ok u
image_end (Err fault) = Err (NotKept (record { fault = fault }))

-- a cartridge's image replaces the file that is named for it, by steps of the folder, in a directory of some files, which may be files that aren't known;
-- where none is named, no file is touched
abbrev pub KeepsImage : FileSteps → Option (Bor (List ℕ)) → (image : List ℕ) → Result (Unit {0}) TaskFault → Type 0
KeepsImage steps None image end = end ≡ Ok tt
KeepsImage steps (Some name) image end =
    (saved : Result (Unit {0}) SaveFault) × (end ≡ image_end saved) × ((files files' : Option Files) × SaveEnds steps name.now image files files' saved)

-- ---- the report

-- what is reported: how many edits were made, and whether a last line was cut
abbrev pub cut_text : Bool → List ℕ
cut_text false = codes " edits\n"
cut_text true = codes " edits; a last line was cut\n"

abbrev pub recovery_line : ℕ → Bool → List ℕ
recovery_line edits cut = codes "recovered: " ++ decimal edits ++ cut_text cut

-- the report after a cartridge was kept, or a fault where memory is refused for it; where the cartridge wasn't, there is none
abbrev pub IsLineAfter : Result (Unit {0}) TaskFault → ℕ → Bool → Result (List ℕ) TaskFault → Type 0
IsLineAfter (Ok u) edits cut end = (end ≡ Ok (recovery_line edits cut)) ⊎ (end ≡ Err (Report Memory))
IsLineAfter (Err fault) edits cut end = end ≡ Err fault

-- the report of what was recovered, whose cartridge replaces the file that is named for it
abbrev pub IsReportOf : FileSteps → Option (Bor (List ℕ)) → Result (Recovered GlobalType) TaskFault → Result (List ℕ) TaskFault → Type 0
IsReportOf steps name (Ok found) end =
    (kept : Result (Unit {0}) TaskFault) × KeepsImage steps name found.movie.cart kept × IsLineAfter kept found.edits found.cut end
IsReportOf steps name (Err fault) end = end ≡ Err fault

-- a recovery ends: the movie's text is written, then its cartridge replaces the file that is named for it, and then the report is written to standard error,
-- which held some bytes before and holds some afterwards; each only where what comes before it is done
pub record RecoveryEnds (steps : FileSteps) (files : FileBytes) (words : RecoveryWords) (old new : StreamBytes) (told told' : Option (List ℕ)) (end : Result (Unit {0}) TaskFault) : Type 0 where
  pub found : Result (Recovered GlobalType) TaskFault
  pub done : Result (List ℕ) TaskFault
  pub recovers : Recovers files words old new found
  pub reported : IsReportOf steps words.image found done
  pub reports : Reports done told told' end
