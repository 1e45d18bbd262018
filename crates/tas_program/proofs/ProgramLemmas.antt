-- How invocations end.
use Rattle.std.proofs.Common.{◌≡◌, ◌<◌, ℕ, List, [], ◌∷◌, ◌++◌, length, take, map, get_or, Option, None, Some, Result, Ok, Err, inl, inr, refl, sym, ap, subst, ◌∙◌, ◌+◌, ◌⊎◌, arith}
use Rattle.std.proofs.lemmas.List.{map-append, take_more}
use Rattle.std.proofs.KnownBytes.{Keeps-refl}
use Rattle.tas_engines.specs.declared.fault.ReadFault.TheVariants.{Failed, Memory}
use Rattle.tas_engines.specs.declared.fault.ToolFault.TheVariants.{Read}
use Rattle.tas_engines.specs.Commands.{Answers, IsRun, IsRunOn}
use Rattle.tas_engines.specs.Input.{StopsReadingAll}
use Rattle.tas_engines.specs.declared.fault.ToolFault.{ToolFault}
use Rattle.std.specs.Prelude.{String}
use Rattle.std.specs.declared.vec.IntoIter.{IntoIter}
use Rattle.std.specs.declared.io.Error.{Error}
use Rattle.clap.specs.Walk.{Text}
use Rattle.tas_words.specs.declared.invocation.Invocation.{Invocation}
use Rattle.tas_words.specs.declared.invocation.Invocation.TheVariants.{Do, Save, Show, Refuse, NoMemory}
use Rattle.tas_words.specs.declared.task.Task.{Task}
use Rattle.tas_words.specs.Invocations.{AreGiven, IsInvocation, IsNoTask}
use Rattle.tas_program.specs.Program.{IsAskedBy, end_status, OneFileRun, TwoFilesRun, FilesRun, EndsOver, OverOne, OverTwo, IsRunOfFiles, IsSaveRun, IsTaskRun, RunsAfter, TaskEnds, desk_of, talk_of}
use Rattle.tas_program.specs.declared.status.TaskFault.{TaskFault}
use Rattle.tas_program.specs.declared.status.TaskFault.TheVariants.{Word, Tool, Unread, NotMovie, Search as NotSearched, Recover as NotRecovered, Image as NotKept, Verify as NotVerified, NoCarts, NotAll, Report, NoReport, UnsyncedReport, NoJournal, Journal as NotNoted, SeatJournal, Save as NotSaved}
use Rattle.tas_program.specs.declared.file_words.Permit.{Permit}
use Rattle.tas_program.specs.declared.file_words.WordFault.{WordFault}
use Rattle.tas_program.specs.FileWords.{WordsEnd, first_fault}
use Rattle.tas_program.specs.OutputWords.{OutputEnds}
use Rattle.tas_program.specs.Files.{FileBytes}
use Rattle.tas_program.specs.Reporting.{reported_of}
use Rattle.tas_program.proofs.SearchLemmas.{no_save_fault}
use Rattle.tas_program.specs.Saving.{FileSteps}
use Rattle.tas_program.specs.Streams.{StreamBytes}

-- a task isn't begun, since a word is at fault
pub not_begun : (steps : FileSteps) (files : FileBytes) (chosen : Task) (old : StreamBytes) (end : Result Permit WordFault) (fault : WordFault) → end ≡ Err fault → WordsEnd files.shown chosen end
    → IsTaskRun steps files chosen old old (Err (Word fault))
not_begun steps files chosen old end fault is (seen, are, first) = (seen, are, rw (first, is) (refl, refl))

-- the same of a task whose output replaces a file
pub not_saved : (steps : FileSteps) (files : FileBytes) (chosen : Task) (name : List ℕ) (old : StreamBytes) (end : Result Permit WordFault) (fault : WordFault) → end ≡ Err fault
    → OutputEnds files.shown chosen name end → IsSaveRun steps files chosen name old old (Err (Word fault))
not_saved steps files chosen name old end fault is (named, seen, file, words, inputs, shown, first) =
    (named, seen, file, words, inputs, shown, rw (first, is) (refl, refl))

pub task_ends : (steps : FileSteps) (files : FileBytes) (chosen : Task) (old new : StreamBytes) (end : Result (Unit {0}) TaskFault) → IsTaskRun steps files chosen old new end → TaskEnds steps files chosen old new (end_status end)
task_ends steps files chosen old new (Ok u) ran = ran
task_ends steps files chosen old new (Err (Word fault)) ran = (fault, ran)
task_ends steps files chosen old new (Err (Tool fault)) ran = (Tool fault, tt, ran)
task_ends steps files chosen old new (Err (Unread role fault)) ran = (Unread role fault, tt, ran)
task_ends steps files chosen old new (Err (NotMovie role error)) ran = (NotMovie role error, tt, ran)
task_ends steps files chosen old new (Err (NotSearched e)) ran = (NotSearched e, tt, ran)
task_ends steps files chosen old new (Err (NotRecovered fault)) ran = (NotRecovered fault, tt, ran)
task_ends steps files chosen old new (Err (NotKept fault)) ran = (NotKept fault, tt, ran)
task_ends steps files chosen old new (Err (NotVerified fault)) ran = (NotVerified fault, tt, ran)
task_ends steps files chosen old new (Err NoCarts) ran = (NoCarts, tt, ran)
task_ends steps files chosen old new (Err NotAll) ran = (NotAll, tt, ran)
task_ends steps files chosen old new (Err (Report fault)) ran = (Report fault, tt, ran)
task_ends steps files chosen old new (Err NoReport) ran = (NoReport, tt, ran)
task_ends steps files chosen old new (Err UnsyncedReport) ran = (UnsyncedReport, tt, ran)
task_ends steps files chosen old new (Err NoJournal) ran = (NoJournal, tt, ran)
task_ends steps files chosen old new (Err (NotNoted fault)) ran = (NotNoted fault, tt, ran)
task_ends steps files chosen old new (Err (SeatJournal seat fault)) ran = (SeatJournal seat fault, tt, ran)
task_ends steps files chosen old new (Err (NotSaved fault)) (seen, are, ran) = absurd (go (first_fault seen) ran)
  where
    go : (word : Option WordFault) → RunsAfter steps files chosen word old new (Err (NotSaved fault)) → ⊥
    go (Some word) (is, same) = cc
    go None ended = no_save_fault steps files (reported_of chosen) (talk_of chosen) (desk_of chosen) chosen old new fault ended

-- a run ended over a file that was opened
pub over_one : (ran : OneFileRun) (one file left : Option (List ℕ)) (old new : StreamBytes) (end : Result (Unit {0}) ToolFault) → file ≡ one
    → ran file left old.input new.input old.output new.output end → EndsOver (one ∷ []) (OverOne ran) old new end
over_one ran one file left old new end is ended = inr (left ∷ [], subst (λ (f : Option (List ℕ)). ran f left old.input new.input old.output new.output end) is ended)

-- the same of two files
pub over_two : (ran : TwoFilesRun) (one two file left file' left' : Option (List ℕ)) (old new : StreamBytes) (end : Result (Unit {0}) ToolFault) → file ≡ one → file' ≡ two
    → ran file left file' left' old.input new.input old.output new.output end → EndsOver (one ∷ two ∷ []) (OverTwo ran) old new end
over_two ran one two file left file' left' old new end is is' ended =
    let second = subst (λ (f : Option (List ℕ)). ran file left f left' old.input new.input old.output new.output end) is' ended in
    inr (left ∷ left' ∷ [], subst (λ (f : Option (List ℕ)). ran f left two left' old.input new.input old.output new.output end) is second)

-- the same of any files
pub over_all : (ran : FilesRun) (all files left : List (Option (List ℕ))) (old new : StreamBytes) (end : Result (Unit {0}) ToolFault) → files ≡ all
    → ran files left old.input new.input old.output new.output end → EndsOver all ran old new end
over_all ran all files left old new end is ended = over all (subst (λ (l : List (Option (List ℕ))). ran l left old.input new.input old.output new.output end) is ended)
  where
    over : (l : List (Option (List ℕ))) → ran l left old.input new.input old.output new.output end → EndsOver l ran old new end
    over [] ended = (left, ended)
    over (file ∷ l) ended = inr (left, ended)

-- reading stops at the first of some inputs, where memory is refused before any byte is read
refused_first : (file : Option (List ℕ)) (others : List (Option (List ℕ))) → StopsReadingAll (file ∷ others) (file ∷ others) Memory
unfolding StopsReadingAll
refused_first None others = inl (([], tt, omega arith), refl)
refused_first (Some bytes) others = inl (([], refl, omega arith), refl)

-- files of which one wasn't opened, or memory was refused before any was read
pub not_over : (answers : Answers) (files : List (Option (List ℕ))) (old : StreamBytes) (fault : ToolFault) → 0 < length files → (fault ≡ Read Failed) ⊎ (fault ≡ Read Memory) → EndsOver files (IsRun answers) old old (Err fault)
not_over answers [] old fault some why = absurd (omega (arith, some))
not_over answers (file ∷ files) old fault some (inl is) = inl (ap Err is, refl)
not_over answers (file ∷ files) old fault some (inr is) = inr (file ∷ files, inl (Memory, ap Err is, refused_first file (files ++ old.input ∷ []), Keeps-refl old.output))

-- a command that reads its files alone ran over one
pub over_alone : (answers : Answers) (one file left : Option (List ℕ)) (old new : StreamBytes) (end : Result (Unit {0}) ToolFault) → file ≡ one → new.input ≡ old.input
    → EndsOver [] (IsRun answers) (record { input = file; output = old.output }) (record { input = left; output = new.output }) end → EndsOver (one ∷ []) (IsRunOfFiles answers) old new end
over_alone answers one file left old new end is unread (lefts, ran) =
    inr (lefts ++ left ∷ [], (unread, subst (λ (f : Option (List ℕ)). IsRunOn answers (f ∷ []) (lefts ++ left ∷ []) old.output new.output end) is ran))

-- one more file is open
pub opened_more : {F N : Type 0} (r : F → Option (List ℕ)) (f : N → Option (List ℕ)) (files more : List F) (file : F) (names : List N) (k : ℕ) (name : N) → k < length names
    → map r files ≡ map f (take k names) → r file ≡ f (get_or names k name) → more ≡ files ++ file ∷ [] → map r more ≡ map f (take (k + 1) names)
opened_more r f files more file names k name lt before here pushed =
    ap (map r) pushed ∙ map-append r files (file ∷ []) ∙ ap (λ l. l ++ r file ∷ []) before ∙ ap (λ (o : Option (List ℕ)). map f (take k names) ++ o ∷ []) here
    ∙ sym (map-append f (take k names) (get_or names k name ∷ [])) ∙ ap (map f) (sym (take_more names k name lt))

-- what listed words ask for is asked by what the system gave
pub asked_by : {A : Type 0} (given : Result (IntoIter (String A) A) Error) (words : List Text) (invocation : Invocation A) → AreGiven given words → IsInvocation words invocation → IsAskedBy given invocation
asked_by given words (Do chosen) are asks = (words, are, asks)
asked_by given words (Save chosen file) are asks = (words, are, asks)
asked_by given words (Show text) are asks = tt
asked_by given words (Refuse text) are asks = tt
asked_by given words NoMemory are asks = tt

-- whatever it gave, no task may be asked
pub no_task_asked_by : {A : Type 0} (given : Result (IntoIter (String A) A) Error) (invocation : Invocation A) → IsNoTask invocation → IsAskedBy given invocation
no_task_asked_by given (Do chosen) none = absurd none
no_task_asked_by given (Save chosen file) none = absurd none
no_task_asked_by given (Show text) none = tt
no_task_asked_by given (Refuse text) none = tt
no_task_asked_by given NoMemory none = tt
