-- How the program ends: what it writes, and its status.
use Rattle.std.specs.Prelude.{◌≡◌, ℕ, max, min, List, [], ◌∷◌, ◌⊎◌, Option, Some, None, Result, Ok, Err, String, string_bytes}
use Rattle.std.specs.declared.vec.IntoIter.{IntoIter}
use Rattle.std.specs.declared.io.Error.{Error}
use Rattle.std.specs.Io.KnownBytes.{Appends}
use Rattle.tas_engines.specs.declared.fault.RunFault.{RunFault}
use Rattle.tas_engines.specs.declared.fault.ToolFault.{ToolFault}
use Rattle.tas_engines.specs.declared.fault.ToolFault.TheVariants.{Read, Run}
use Rattle.tas_engines.specs.declared.fault.ReadFault.TheVariants.{Failed}
use Rattle.tas_engines.specs.declared.fault.RunFault.TheVariants.{Write, Memory}
use Rattle.tas_engines.specs.Movies.{IsMovieRun}
use Rattle.tas_engines.specs.Checking.{IsCheckAnswer}
use Rattle.tas_engines.specs.Migrating.{IsMigrateAnswer}
use Rattle.tas_engines.specs.Starting.{IsNewAnswer}
use Rattle.tas_movie.specs.Content.{MovieContent, most_inputs}
use Rattle.tas_engines.specs.Shooting.{IsShotAnswer}
use Rattle.tas_engines.specs.Output.{StopsWriting}
use Rattle.tas_engines.specs.Tracing.{IsTraceAnswer}
use Rattle.tas_tool.specs.Scripts.{IsScriptRun}
use Rattle.tas_tool.specs.Talk.{talk_state_from, IsTalkLeaving, IsCartTalkLeaving, IsMovieTalkLeaving}
use Rattle.tas_movie.specs.Text.{text2}
use Rattle.tas_tool.specs.Pixmaps.{IsExportAnswer}
use Rattle.tas_tool.specs.MovieScripts.{IsMovieScriptRun}
use Rattle.tas_engines.specs.Commands.{Answers, OfOne, OfTwo, OfThree, OfFour, IsRun, IsRunOn}
use Rattle.tas_engines.specs.Diffing.{IsDiffAnswer}
use Rattle.tas_engines.specs.Comparing.{IsCompareAnswer}
use Rattle.tas_engines.specs.Lag.{IsLagAnswer}
use Rattle.tas_engines.specs.Digests.{IsDigestAnswer}
use Rattle.tas_engines.specs.Ram.{IsRamAnswer}
use Rattle.tas_engines.specs.RamTable.{IsTableAnswer}
use Rattle.tas_tool.specs.Films.{IsFilmRun}
use Rattle.tas_engines.specs.Editing.{IsEditAnswer, IsEditWithAnswer}
use Rattle.tas_engines.specs.Cutting.{IsCutAnswer}
use Rattle.std.specs.Global.{Global as GlobalType}
use Rattle.tas_seat.specs.Lines.{DoorEnds, end_facts}
use Rattle.tas_tool.specs.Desks.{IsDeskRun}
use Rattle.tas_words.specs.declared.task.DeskWords.{DeskWords}
use Rattle.tas_words.specs.declared.invocation.Invocation.{Invocation}
use Rattle.tas_words.specs.declared.invocation.Invocation.TheVariants.{Do, Save, Show, Refuse, NoMemory}
use Rattle.tas_program.specs.declared.status.Status.{Status}
use Rattle.tas_program.specs.declared.status.Status.TheVariants.{Done, Fault, Misuse}
use Rattle.tas_words.specs.declared.task.Task.{Task}
use Rattle.tas_words.specs.declared.task.Task.TheVariants.{Trace, Check, Migrate, New, Recover, Search, Verify, Shot, Film, Export, Ram, Digest, Compare, Lag, Edit, Cut, Diff, Script, Talk, Desk}
use Rattle.std.specs.Borrow.{Bor}
use Rattle.tas_words.specs.declared.task.MovieFiles.{MovieFiles}
use Rattle.tas_words.specs.declared.task.TalkWords.{TalkWords}
use Rattle.tas_words.specs.declared.task.Start.{Start}
use Rattle.tas_words.specs.declared.task.Start.TheVariants.{Blank, Cart, Movie}
use Rattle.clap.specs.Walk.{Text}
use Rattle.tas_words.specs.Invocations.{AreGiven, IsInvocation}
use Rattle.tas_program.specs.declared.status.TaskFault.{TaskFault}
use Rattle.tas_program.specs.declared.status.TaskFault.TheVariants.{Word, Tool, Unread, NotMovie, Search as NotSearched, Recover as NotRecovered, Image as NotKept, Verify as NotVerified, NoCarts, NotAll, Report, NoReport, UnsyncedReport, NoJournal, Journal as NotNoted, SeatJournal, Save as NotSaved}
use Rattle.tas_program.specs.declared.file_words.WordFault.{WordFault}
use Rattle.tas_program.specs.declared.file_words.SeenWord.{SeenWord}
use Rattle.tas_program.specs.declared.saving.SaveFault.{SaveFault}
use Rattle.tas_program.specs.declared.folder.OrdinaryFile.{OrdinaryFile}
use Rattle.tas_program.specs.FileWords.{AreSeen, IsSeen, fault_or, first_fault}
use Rattle.tas_program.specs.OutputWords.{AreInputsSeen, output_fault}
use Rattle.tas_program.specs.Saving.{Files, FileSteps, SaveEnds}
use Rattle.tas_program.specs.declared.roles.Roles.TheVariants.{CartMovie, CartOldMovie, CartScriptMovie, CartScriptOtherMovie, CartNamesMovie}
use Rattle.tas_program.specs.Naming.{EndsNamed}
use Rattle.tas_program.specs.Noting.{NotesDesk, NotesTalk}
use Rattle.tas_program.specs.Files.{FileBytes, ends_of}
use Rattle.tas_program.specs.Reporting.{ReportedEnds, reported_of}
use Rattle.tas_program.specs.declared.searching.Reported.{Reported}
use Rattle.tas_journal.specs.declared.fault.RecoveryFault.{RecoveryFault}
use Rattle.tas_journal.specs.declared.fault.RecoveryFault.TheVariants as recovery
use Rattle.tas_search.specs.declared.search_error.SearchError.{SearchError}
use Rattle.tas_search.specs.declared.search_error.SearchError.TheVariants as error
use Rattle.tas_program.specs.Streams.{StreamBytes}

-- the number that is reported to the system
abbrev pub status_code : Status → ℕ
status_code Done = 0
status_code Fault = 1
status_code Misuse = 2

-- the status after this end
abbrev pub end_status : Result (Unit {0}) TaskFault → Status
end_status (Ok _) = Done
end_status (Err (Word fault)) = Misuse
end_status (Err (Tool fault)) = Fault
end_status (Err (Unread role fault)) = Fault
end_status (Err (NotMovie role error)) = Fault
end_status (Err (NotSearched e)) = Fault
end_status (Err (NotRecovered fault)) = Fault
end_status (Err (NotKept fault)) = Fault
end_status (Err (NotVerified fault)) = Fault
end_status (Err NoCarts) = Fault
end_status (Err NotAll) = Fault
end_status (Err (Report fault)) = Fault
end_status (Err NoReport) = Fault
end_status (Err UnsyncedReport) = Fault
end_status (Err NoJournal) = Fault
end_status (Err (NotNoted fault)) = Fault
end_status (Err (SeatJournal seat fault)) = Fault
end_status (Err (NotSaved fault)) = Fault

-- what runs over files and the streams: what the files have and what is left of them, and the bytes of the input and of the output, before and after
abbrev pub FilesRun : Type 1
FilesRun = (files left : List (Option (List ℕ))) → (input input' output output' : Option (List ℕ)) → Result (Unit {0}) ToolFault → Type 0

-- files are opened first, where there are any: one can't be, and the streams are as before; or a run over them ends, whatever it leaves of them
abbrev pub EndsOver : List (Option (List ℕ)) → FilesRun → StreamBytes → StreamBytes → Result (Unit {0}) ToolFault → Type 0
EndsOver [] ran old new end = (left : List (Option (List ℕ))) × ran [] left old.input new.input old.output new.output end
EndsOver (file ∷ files) ran old new end =
    ((end ≡ Err (Read Failed)) × (new ≡ old)) ⊎ ((left : List (Option (List ℕ))) × ran (file ∷ files) left old.input new.input old.output new.output end)

-- a run over one file, and one over two, each named for itself
abbrev pub OneFileRun : Type 1
OneFileRun = (file left input input' output output' : Option (List ℕ)) → Result (Unit {0}) ToolFault → Type 0

abbrev pub OverOne : OneFileRun → FilesRun
OverOne ran (file ∷ []) (left ∷ []) input input' output output' end = ran file left input input' output output' end
OverOne ran _ _ input input' output output' end = ⊥

abbrev pub TwoFilesRun : Type 1
TwoFilesRun = (file left : Option (List ℕ)) → OneFileRun

abbrev pub OverTwo : TwoFilesRun → FilesRun
OverTwo ran (file ∷ file' ∷ []) (left ∷ left' ∷ []) input input' output output' end = ran file left file' left' input input' output output' end
OverTwo ran _ _ input input' output output' end = ⊥

-- a command that reads its files alone, and nothing of the input
abbrev pub IsRunOfFiles : Answers → FilesRun
IsRunOfFiles answers files left input input' output output' end = (input' ≡ input) × IsRunOn answers files left output output' end

-- a desk whose doors have these ends, over a cartridge and a movie; it reads nothing of the input
abbrev pub IsDeskTask : List DoorEnds → TwoFilesRun
IsDeskTask ends cart cart' movie movie' input input' output output' end = (input' ≡ input) × IsDeskRun GlobalType end_facts ends ends cart cart' movie movie' output output' end

-- a script is run, on the movie of these files or on none
abbrev pub RunsScript : FileBytes → Option MovieFiles → StreamBytes → StreamBytes → Result (Unit {0}) ToolFault → Type 0
RunsScript files None old new end = IsScriptRun old.input new.input old.output new.output end
RunsScript files (Some start) old new end = EndsOver (files.read start.cart.now ∷ files.read start.movie.now ∷ []) (OverTwo IsMovieScriptRun) old new end

-- the end of a task whose engine was run
abbrev pub tool_end : Result (Unit {0}) ToolFault → Result (Unit {0}) TaskFault
tool_end (Ok u) = Ok u
tool_end (Err fault) = Err (Tool fault)

-- an engine ends so, and its fault stays as it is, which names no input
pub record EndsPlain (ran : Result (Unit {0}) ToolFault → Type 0) (end : Result (Unit {0}) TaskFault) : Type 0 where
  pub done : Result (Unit {0}) ToolFault
  pub is : end ≡ tool_end done
  pub ends : ran done

-- a task that reports nothing, and holds no conversation, ends as the definition of its command says, over its files and the streams; its fault names its
-- input where its row says by which names
abbrev pub DoesTask : FileBytes → Task → StreamBytes → StreamBytes → Result (Unit {0}) TaskFault → Type 0
DoesTask files (Trace n) old new end = EndsPlain (EndsOver [] (IsRun (OfOne (λ image. IsTraceAnswer image n))) old new) end
DoesTask files (Check cart) old new end = EndsPlain (EndsOver (files.read cart.now ∷ []) (IsRun (OfTwo IsCheckAnswer)) old new) end
DoesTask files (Migrate cart) old new end = EndsPlain (EndsOver (files.read cart.now ∷ []) (IsRun (OfTwo IsMigrateAnswer)) old new) end
DoesTask files (New cart frames) old new end = EndsPlain (EndsOver (files.read cart.now ∷ []) (IsRunOfFiles (OfOne (IsNewAnswer (min frames most_inputs)))) old new) end
DoesTask files (Recover words) old new end = ⊥
DoesTask files (Search words) old new end = ⊥
DoesTask files (Verify words) old new end = ⊥
DoesTask files (Shot cart k) old new end = EndsPlain (EndsOver (files.read cart.now ∷ []) (IsRun (OfTwo (IsShotAnswer k))) old new) end
DoesTask files (Film cart from to) old new end = EndsPlain (EndsOver (files.read cart.now ∷ []) (OverOne (IsFilmRun from to)) old new) end
DoesTask files (Export cart from to workers) old new end = EndsPlain (EndsOver (files.read cart.now ∷ []) (OverOne (IsMovieRun (IsExportAnswer from to))) old new) end
DoesTask files (Ram cart from to None) old new end = EndsNamed CartMovie (files.read cart.now ∷ []) (OfTwo (IsRamAnswer from to)) old new end
DoesTask files (Ram cart from to (Some names)) old new end = EndsNamed CartNamesMovie (files.read cart.now ∷ files.read names.now ∷ []) (OfThree (IsTableAnswer from to)) old new end
DoesTask files (Digest cart every) old new end = EndsNamed CartMovie (files.read cart.now ∷ []) (OfTwo (IsDigestAnswer (max every 1))) old new end
DoesTask files (Compare cart before) old new end = EndsNamed CartOldMovie (files.read cart.now ∷ files.read before.now ∷ []) (OfThree IsCompareAnswer) old new end
DoesTask files (Lag cart) old new end = EndsNamed CartMovie (files.read cart.now ∷ []) (OfTwo IsLagAnswer) old new end
DoesTask files (Edit cart script None) old new end = EndsNamed CartScriptMovie (files.read cart.now ∷ files.read script.now ∷ []) (OfThree IsEditAnswer) old new end
DoesTask files (Edit cart script (Some other)) old new end =
    EndsNamed CartScriptOtherMovie (files.read cart.now ∷ files.read script.now ∷ files.read other.now ∷ []) (OfFour IsEditWithAnswer) old new end
DoesTask files (Cut cart from to) old new end = EndsNamed CartMovie (files.read cart.now ∷ []) (OfTwo (IsCutAnswer from to)) old new end
DoesTask files (Diff cart before) old new end = EndsNamed CartOldMovie (files.read cart.now ∷ files.read before.now ∷ []) (OfThree IsDiffAnswer) old new end
DoesTask files (Script start) old new end = EndsPlain (RunsScript files start old new) end
DoesTask files (Talk words) old new end = ⊥
DoesTask files (Desk words) old new end = ⊥

-- ---- conversations

-- the words of a task's conversation, where it is one
abbrev pub talk_of : Task → Option TalkWords
talk_of (Talk words) = Some words
talk_of chosen = None

-- files are opened first: one can't be, the streams are as before, and no movie is left; or a conversation over them ends, and leaves this
abbrev pub LeavesOver : List (Option (List ℕ)) → FilesRun → Option MovieContent → StreamBytes → StreamBytes → Result (Unit {0}) ToolFault → Type 0
LeavesOver files ran left old new end =
    ((end ≡ Err (Read Failed)) × (new ≡ old) × (left ≡ None)) ⊎ ((rest : List (Option (List ℕ))) × ran files rest old.input new.input old.output new.output end)

-- a conversation ends as its definition says, and leaves this movie, or none where it didn't begin
abbrev pub LeavesTalk : FileBytes → Start → Option MovieContent → StreamBytes → StreamBytes → Result (Unit {0}) ToolFault → Type 0
LeavesTalk files Blank left old new end = IsTalkLeaving left (talk_state_from None) old.input new.input old.output new.output end
LeavesTalk files (Cart cart) left old new end = LeavesOver (files.read cart.now ∷ []) (OverOne (IsCartTalkLeaving left)) left old new end
LeavesTalk files (Movie start) left old new end = LeavesOver (files.read start.cart.now ∷ files.read start.movie.now ∷ []) (OverTwo (IsMovieTalkLeaving left)) left old new end

-- the same of one with a journal where the words name one, by steps of the folder
abbrev pub LeavesBy : FileSteps → FileBytes → Start → Option (Bor (List ℕ)) → Option MovieContent → StreamBytes → StreamBytes → Result (Unit {0}) TaskFault → Type 0
LeavesBy steps files start None left old new end = (done : Result (Unit {0}) ToolFault) × (end ≡ tool_end done) × LeavesTalk files start left old new done
LeavesBy steps files start (Some journal) left old new end = NotesTalk steps files start journal.now left old new end

abbrev pub LeavesWords : FileSteps → FileBytes → TalkWords → Option MovieContent → StreamBytes → StreamBytes → Result (Unit {0}) TaskFault → Type 0
LeavesWords steps files words left old new end = LeavesBy steps files words.start words.journal left old new end

-- ---- desks

-- the words of a task's desk, where it is one
abbrev pub desk_of : Task → Option DeskWords
desk_of (Desk words) = Some words
desk_of chosen = None

-- a desk without a journal: its two files are opened first
abbrev pub DoesDesk : FileBytes → DeskWords → StreamBytes → StreamBytes → Result (Unit {0}) ToolFault → Type 0
DoesDesk files words old new end = EndsOver (files.read words.cart.now ∷ files.read words.movie.now ∷ []) (OverTwo (IsDeskTask (ends_of files words.pairs))) old new end

-- a desk, with a journal where the words name one, by steps of the folder
abbrev pub DeskBy : FileSteps → FileBytes → DeskWords → Option (Bor (List ℕ)) → StreamBytes → StreamBytes → Result (Unit {0}) TaskFault → Type 0
DeskBy steps files words None old new end = (done : Result (Unit {0}) ToolFault) × (end ≡ tool_end done) × DoesDesk files words old new done
DeskBy steps files words (Some journal) old new end = NotesDesk steps files words journal.now old new end

abbrev pub DeskWordsEnd : FileSteps → FileBytes → DeskWords → StreamBytes → StreamBytes → Result (Unit {0}) TaskFault → Type 0
DeskWordsEnd steps files words old new end = DeskBy steps files words words.journal old new end

-- ---- any task

-- the engine of a task was run: that of a search, a recovery or a verification, which reports to some writer, of which nothing is said here, the file of a search's
-- report made and brought to the disk, and that of a recovery's cartridge replaced, by steps of the folder; a conversation or those of a desk were held, the journal's file made by such steps; or that of
-- another task
abbrev pub EngineEnds : FileSteps → FileBytes → Option Reported → Option TalkWords → Option DeskWords → Task → StreamBytes → StreamBytes → Result (Unit {0}) TaskFault → Type 0
EngineEnds steps files (Some words) talk desk chosen old new end = (told told' : Option (List ℕ)) × ReportedEnds steps files words old new told told' end
EngineEnds steps files None (Some words) desk chosen old new end = (left : Option MovieContent) × LeavesWords steps files words left old new end
EngineEnds steps files None None (Some words) chosen old new end = DeskWordsEnd steps files words old new end
EngineEnds steps files None None None chosen old new end = DoesTask files chosen old new end

-- what is done after the words were looked at: where one is at fault, the task ends with that, and no stream is read or written; else its
-- engine is run
abbrev pub RunsAfter : FileSteps → FileBytes → Task → Option WordFault → StreamBytes → StreamBytes → Result (Unit {0}) TaskFault → Type 0
RunsAfter steps files chosen (Some fault) old new end = (end ≡ Err (Word fault)) × (new ≡ old)
RunsAfter steps files chosen None old new end = EngineEnds steps files (reported_of chosen) (talk_of chosen) (desk_of chosen) chosen old new end

-- a task is run: its words are seen as the folder shows their files, and the first one at fault decides
abbrev pub IsTaskRun : FileSteps → FileBytes → Task → StreamBytes → StreamBytes → Result (Unit {0}) TaskFault → Type 0
IsTaskRun steps files chosen old new end = (seen : List SeenWord) × AreSeen files.shown chosen seen × RunsAfter steps files chosen (first_fault seen) old new end

-- the fault of an engine whose output is held in memory: a write fails only where memory is refused
abbrev pub held_fault : ToolFault → ToolFault
held_fault (Run (Write written)) = Run Memory
held_fault fault = fault

-- the same of a search
abbrev pub held_error : SearchError → SearchError
held_error (error.Run (Write written)) = error.Memory
held_error e = e

-- the same of a recovery
abbrev pub held_recovery : RecoveryFault → RecoveryFault
held_recovery (recovery.Run (Write written)) = recovery.Run Memory
held_recovery fault = fault

-- the same of any task
abbrev pub held : TaskFault → TaskFault
held (Tool fault) = Tool (held_fault fault)
held (NotSearched e) = NotSearched (held_error e)
held (NotRecovered fault) = NotRecovered (held_recovery fault)
held fault = fault

-- the end of a task whose output was to replace a file
abbrev pub saved_end : Result (Unit {0}) SaveFault → Result (Unit {0}) TaskFault
saved_end (Ok u) = Ok u
saved_end (Err fault) = Err (NotSaved fault)

-- what comes of the file once an engine has ended, with this text as its output: it is replaced by the text, where the engine's task is done
abbrev pub SavedAfter : FileSteps → Result (Unit {0}) TaskFault → (name text : List ℕ) → (files files' : Option Files) → Result (Unit {0}) TaskFault → Type 0
SavedAfter steps (Ok _) name text files files' end = (saved : Result (Unit {0}) SaveFault) × (end ≡ saved_end saved) × SaveEnds steps name text files files' saved
SavedAfter steps (Err fault) name text files files' end = (end ≡ Err (held fault)) × (files' ≡ files)

-- a task is done, and its output replaces a file: nothing is written to standard output
pub record SavesTask (steps made : FileSteps) (read : FileBytes) (chosen : Task) (name : List ℕ) (old new : StreamBytes) (files files' : Option Files) (end : Result (Unit {0}) TaskFault) : Type 0 where
  pub done : Result (Unit {0}) TaskFault
  pub text : List ℕ
  pub does : EngineEnds made read (reported_of chosen) (talk_of chosen) (desk_of chosen) chosen (record { input = old.input; output = Some [] }) (record { input = new.input; output = Some text }) done
  pub silent : new.output ≡ old.output
  pub saved : SavedAfter steps done name text files files' end

-- ---- a conversation whose movie replaces a file

-- the end where a conversation ended so and its movie was to replace a file: the file's fault, where it has one
abbrev pub left_end : Result (Unit {0}) TaskFault → Result (Unit {0}) SaveFault → Result (Unit {0}) TaskFault
left_end done (Ok u) = done
left_end done (Err fault) = Err (NotSaved fault)

-- what comes of the file: the text of the movie that is left replaces it, whatever ended the conversation; where none is left no file is touched
abbrev pub LeftAfter : FileSteps → Result (Unit {0}) TaskFault → Option MovieContent → (name : List ℕ) → (files files' : Option Files) → Result (Unit {0}) TaskFault → Type 0
LeftAfter steps done (Some movie) name files files' end = (saved : Result (Unit {0}) SaveFault) × (end ≡ left_end done saved) × SaveEnds steps name (text2 movie) files files' saved
LeftAfter steps done None name files files' end = (end ≡ done) × (files' ≡ files)

-- a conversation is held as without a file, its answers on standard output, and the movie that it leaves replaces the file
pub record SavesTalk (steps made : FileSteps) (read : FileBytes) (words : TalkWords) (name : List ℕ) (old new : StreamBytes) (files files' : Option Files) (end : Result (Unit {0}) TaskFault) : Type 0 where
  pub done : Result (Unit {0}) TaskFault
  pub left : Option MovieContent
  pub does : LeavesWords made read words left old new done
  pub saved : LeftAfter steps done left name files files' end

-- what a task does that replaces a file
abbrev pub SavesBy : FileSteps → Option TalkWords → FileBytes → Task → List ℕ → (old new : StreamBytes) → (files files' : Option Files) → Result (Unit {0}) TaskFault → Type 0
SavesBy steps None read chosen name old new files files' end = SavesTask steps steps read chosen name old new files files' end
SavesBy steps (Some words) read chosen name old new files files' end = SavesTalk steps steps read words name old new files files' end

-- what is done after the words were looked at: where one is at fault, the task ends with that, and nothing is read or written; else it is
-- done and saved, by steps of the folder, in a directory of some files. These may be files that aren't known, as those of the system's folder
-- are: of them it says nothing
abbrev pub SavesAfter : FileSteps → FileBytes → Task → List ℕ → Option WordFault → StreamBytes → StreamBytes → Result (Unit {0}) TaskFault → Type 0
SavesAfter steps read chosen name (Some fault) old new end = (end ≡ Err (Word fault)) × (new ≡ old)
SavesAfter steps read chosen name None old new end = (files files' : Option Files) × SavesBy steps (talk_of chosen) read chosen name old new files files' end

-- a task is run whose output replaces a file: its words are seen as the folder shows their files, and the first one at fault decides, as for
-- a task whose output replaces none; then one that is this file does, or this file
abbrev pub IsSaveRun : FileSteps → FileBytes → Task → List ℕ → StreamBytes → StreamBytes → Result (Unit {0}) TaskFault → Type 0
IsSaveRun steps read chosen name old new end =
    (named : List SeenWord) × (seen : List SeenWord) × (file : Option OrdinaryFile)
    × AreSeen read.shown chosen named × AreInputsSeen read.shown chosen seen × IsSeen read.shown (Some name) file
    × SavesAfter steps read chosen name (fault_or (first_fault named) (output_fault chosen seen name file)) old new end

-- a fault of an engine
abbrev pub IsEngineFault : TaskFault → Type 0
IsEngineFault (Tool fault) = Unit {0}
IsEngineFault (Unread role fault) = Unit {0}
IsEngineFault (NotMovie role error) = Unit {0}
IsEngineFault (NotSearched e) = Unit {0}
IsEngineFault (NotRecovered fault) = Unit {0}
IsEngineFault (NotKept fault) = Unit {0}
IsEngineFault (NotVerified fault) = Unit {0}
IsEngineFault NoCarts = Unit {0}
IsEngineFault NotAll = Unit {0}
IsEngineFault (Report fault) = Unit {0}
IsEngineFault NoReport = Unit {0}
IsEngineFault UnsyncedReport = Unit {0}
IsEngineFault NoJournal = Unit {0}
IsEngineFault (NotNoted fault) = Unit {0}
IsEngineFault (SeatJournal seat fault) = Unit {0}
IsEngineFault _ = ⊥

-- the program's end after a task: done where the task is, else a fault of its engine or of a word
abbrev pub TaskEnds : FileSteps → FileBytes → Task → StreamBytes → StreamBytes → Status → Type 0
TaskEnds steps files chosen old new Done = IsTaskRun steps files chosen old new (Ok tt)
TaskEnds steps files chosen old new Fault = (fault : TaskFault) × IsEngineFault fault × IsTaskRun steps files chosen old new (Err fault)
TaskEnds steps files chosen old new Misuse = (fault : WordFault) × IsTaskRun steps files chosen old new (Err (Word fault))

-- the program's end after a text that was asked for: done where it was written whole, else a fault
abbrev pub TextEnds : List ℕ → Option (List ℕ) → Option (List ℕ) → Status → Type 0
TextEnds text old new Done = Appends old new text
TextEnds text old new Fault = (fault : RunFault) × StopsWriting old new text fault
TextEnds text old new Misuse = ⊥

-- the program's end after an invocation: that of its task, whose output may replace a file; or it shows a text, and reads nothing; else nothing is read and nothing written
abbrev pub CarriesOut : {A : Type 0} → FileSteps → FileBytes → Invocation A → StreamBytes → StreamBytes → Status → Type 0
CarriesOut steps files (Do chosen) old new status = TaskEnds steps files chosen old new status
CarriesOut steps files (Save chosen file) old new status = (end : Result (Unit {0}) TaskFault) × (status ≡ end_status end) × IsSaveRun steps files chosen file.now old new end
CarriesOut steps files (Show text) old new status = (new.input ≡ old.input) × TextEnds (string_bytes text) old.output new.output status
CarriesOut steps files (Refuse text) old new status = (status ≡ Misuse) × (new ≡ old)
CarriesOut steps files NoMemory old new status = (status ≡ Fault) × (new ≡ old)

-- what may be asked for by what the system gave: a task by its words alone
abbrev pub IsAskedBy : {A : Type 0} → Result (IntoIter (String A) A) Error → Invocation A → Type 0
IsAskedBy {A = A} given (Do chosen) = (words : List Text) × AreGiven given words × IsInvocation {A = A} words (Do chosen)
IsAskedBy {A = A} given (Save chosen file) = (words : List Text) × AreGiven given words × IsInvocation {A = A} words (Save chosen file)
IsAskedBy given _ = Unit {0}

-- the program carries out what the words may ask for
abbrev pub ProgramEnds : {A : Type 0} → Result (IntoIter (String A) A) Error → FileSteps → FileBytes → StreamBytes → StreamBytes → Status → Type 0
ProgramEnds {A = A} given steps files old new status = (invocation : Invocation A) × IsAskedBy given invocation × CarriesOut steps files invocation old new status
