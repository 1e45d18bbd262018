-- A search: the files that it reads, what it writes, and what it reports to standard error.
use Rattle.std.specs.Prelude.{◌≡◌, ◌++◌, ◌⊎◌, ℕ, List, [], ◌∷◌, Option, Some, None, Result, Ok, Err, is_some, true}
use Rattle.std.specs.Borrow.{Bor}
use Rattle.std.specs.Io.KnownBytes.{Appends, Keeps}
use Rattle.tas_engines.specs.declared.fault.RunFault.{RunFault}
use Rattle.tas_engines.specs.declared.fault.ToolFault.TheVariants.{Read}
use Rattle.tas_engines.specs.declared.fault.ReadFault.TheVariants.{Failed, Memory}
use Rattle.tas_engines.specs.Output.{StopsWriting}
use Rattle.tas_search.specs.declared.search_error.SearchError.{SearchError}
use Rattle.tas_search.specs.declared.search_request.Search.{Search as Asked}
use Rattle.tas_search.specs.Logs.{LogBytes, Logged, log_bytes}
use Rattle.tas_search.specs.SearchRun.{IsSearchRun}
use Rattle.tas_words.specs.declared.task.SearchWords.{SearchWords}
use Rattle.tas_program.specs.declared.status.TaskFault.{TaskFault}
use Rattle.tas_program.specs.declared.status.TaskFault.TheVariants.{Tool, Search as NotSearched, Report, NoReport, UnsyncedReport}
use Rattle.tas_program.specs.Files.{FileBytes}
use Rattle.tas_program.specs.Saving.{FileSteps}
use Rattle.tas_program.specs.Streams.{StreamBytes}

-- the bytes of a file that may be named
abbrev pub named_file : FileBytes → Option (Bor (List ℕ)) → List (Option (List ℕ))
named_file files None = []
named_file files (Some name) = files.read name.now ∷ []

-- those of the files of a search, in order: the cartridge, the choices where they are named, and the names where they are
abbrev pub search_files : FileBytes → SearchWords → List (Option (List ℕ))
search_files files words = files.read words.cart.now ∷ named_file files words.choices ++ named_file files words.names

-- a search is asked for what the words say
pub record IsAskedFor (words : SearchWords) (asked : Asked) : Type 0 where
  pub from_is : asked.from ≡ words.from
  pub frames_is : asked.frames ≡ words.frames
  pub hold_is : asked.hold ≡ words.hold
  pub part_is : asked.part ≡ record { number = words.part.number; of = words.part.of }
  pub states_is : asked.states ≡ words.states
  pub workers_is : asked.workers ≡ words.workers
  pub choices_is : asked.has_choices ≡ is_some words.choices
  pub names_is : asked.has_names ≡ is_some words.names
  pub goal_is : asked.goal.now ≡ words.goal.now

-- the end of a task that is a search
abbrev pub search_end : Result (List ℕ) SearchError → Result (List ℕ) TaskFault
search_end (Ok report) = Ok report
search_end (Err e) = Err (NotSearched e)

-- an end whose report is seen as bytes
abbrev pub bytes_end : {Z F : Type 0} → (Z → List ℕ) → Result Z F → Result (List ℕ) F
bytes_end said (Ok z) = Ok (said z)
bytes_end said (Err fault) = Err fault

-- files can't be opened: one of them, or there is no memory for their list
abbrev pub CannotOpen : Result (List ℕ) TaskFault → Type 0
CannotOpen end = (end ≡ Err (Tool (Read Failed))) ⊎ (end ≡ Err (Tool (Read Memory)))

-- a search runs over files that are open and the input, by its own definition: it reports its layers, writes its script to the output and returns its
-- verdict, or ends with a fault
abbrev pub SearchesOver : SearchWords → (files left : List (Option (List ℕ))) → (old new : StreamBytes) → (logs logs' : LogBytes) → Result (List ℕ) TaskFault → Type 0
SearchesOver words files left old new logs logs' end =
    (asked : Asked) × IsAskedFor words asked × (done : Result (List ℕ) SearchError) × (end ≡ search_end done) × IsSearchRun (λ verdict. verdict) asked files left old.input new.input old.output new.output logs logs' done

-- a search ends: its files can't be opened, and no stream is read or written; or it runs over them
abbrev pub Searches : FileBytes → SearchWords → StreamBytes → StreamBytes → (logs logs' : LogBytes) → Result (List ℕ) TaskFault → Type 0
Searches files words old new logs logs' end =
    (CannotOpen end × (new ≡ old) × (logs' ≡ logs)) ⊎ ((left : List (Option (List ℕ))) × SearchesOver words (search_files files words) left old new logs logs' end)

-- what is reported: the report, whole; or its first bytes, where a write failed, and this is the fault; or nothing, where the engine ended with one
abbrev pub Reports : Result (List ℕ) TaskFault → (told told' : Option (List ℕ)) → Result (Unit {0}) TaskFault → Type 0
Reports (Ok report) told told' end = ((end ≡ Ok tt) × Appends told told' report) ⊎ ((fault : RunFault) × (end ≡ Err (Report fault)) × StopsWriting told told' report fault)
Reports (Err fault) told told' end = (end ≡ Err fault) × Keeps told told'

-- a write of the verdict failed: that to the report's other writer, and standard error has nothing of it; or that to standard error, and the other has it whole
pub record BreaksOff (logs logs' : LogBytes) (verdict : List ℕ) (end : Result (Unit {0}) TaskFault) : Type 0 where
  pub fault : RunFault
  pub is : end ≡ Err (Report fault)
  pub stops : (StopsWriting logs.report logs'.report verdict fault × (logs'.errors ≡ logs.errors)) ⊎ (Appends logs.report logs'.report verdict × StopsWriting logs.errors logs'.errors verdict fault)

-- what a search reports at its end: the verdict, whole, to both writers; or less of it, where a write failed, and this is the fault; or nothing, where
-- the search ended with one
abbrev pub ReportsVerdict : Result (List ℕ) TaskFault → (logs logs' : LogBytes) → Result (Unit {0}) TaskFault → Type 0
ReportsVerdict (Ok verdict) logs logs' end = ((end ≡ Ok tt) × Logged logs logs' verdict) ⊎ BreaksOff logs logs' verdict end
ReportsVerdict (Err fault) logs logs' end = (end ≡ Err fault) × (logs' ≡ logs)

-- a search ends, and its report is written to two writers
pub record SearchEnds (files : FileBytes) (words : SearchWords) (old new : StreamBytes) (logs logs' : LogBytes) (end : Result (Unit {0}) TaskFault) : Type 0 where
  pub done : Result (List ℕ) TaskFault
  pub mid : LogBytes
  pub searches : Searches files words old new logs mid done
  pub reports : ReportsVerdict done mid logs' end

-- where the report goes beside standard error: a new file, which the folder has made; nowhere that is known
abbrev pub IsReportFile : FileSteps → Option (Bor (List ℕ)) → Option (List ℕ) → Type 0
IsReportFile steps None held = Unit {0}
IsReportFile steps (Some name) held = steps.made name.now held

-- the report's file can't be made, and no stream is read or written
pub record HasNoReport (words : SearchWords) (old new : StreamBytes) (told told' : Option (List ℕ)) (end : Result (Unit {0}) TaskFault) : Type 0 where
  pub is : end ≡ Err NoReport
  pub named : is_some words.report ≡ true
  pub streams : new ≡ old
  pub errors : told' ≡ told

-- the end of a search whose report went to a file of this name, too, whose writer then held these bytes: a good one only where all of them were brought
-- to the disk; where that failed, its fault; and a search that ended with a fault ends with that
abbrev pub KeepsFile : FileSteps → (name : List ℕ) → (held' : Option (List ℕ)) → (done end : Result (Unit {0}) TaskFault) → Type 0
KeepsFile steps name held' (Ok u) end = ((end ≡ Ok tt) × steps.kept name held') ⊎ (end ≡ Err UnsyncedReport)
KeepsFile steps name held' (Err fault) end = end ≡ Err fault

-- the same of a search with a file or without one
abbrev pub KeepsReport : FileSteps → Option (Bor (List ℕ)) → (held' : Option (List ℕ)) → (done end : Result (Unit {0}) TaskFault) → Type 0
KeepsReport steps None held' done end = end ≡ done
KeepsReport steps (Some name) held' done end = KeepsFile steps name.now held' done end

-- a search ends, with its report written to standard error, which held some bytes before and holds some afterwards, and to a new file if one is named;
-- before a good end, all that this file's writer holds then was brought to the disk
pub record SearchesInto (steps : FileSteps) (files : FileBytes) (words : SearchWords) (old new : StreamBytes) (told told' : Option (List ℕ)) (end : Result (Unit {0}) TaskFault) : Type 0 where
  pub held : Option (List ℕ)
  pub held' : Option (List ℕ)
  pub done : Result (Unit {0}) TaskFault
  pub made : IsReportFile steps words.report held
  pub ends : SearchEnds files words old new (log_bytes told held) (log_bytes told' held') done
  pub kept : KeepsReport steps words.report held' done end

-- the report's file can't be made, or the search runs with it
abbrev pub RunsSearch : FileSteps → FileBytes → SearchWords → (old new : StreamBytes) → (told told' : Option (List ℕ)) → Result (Unit {0}) TaskFault → Type 0
RunsSearch steps files words old new told told' end = HasNoReport words old new told told' end ⊎ SearchesInto steps files words old new told told' end
