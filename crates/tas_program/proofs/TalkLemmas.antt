-- Conversations, and the movie that they leave.
use Rattle.std.proofs.Common.{◌≡◌, ℕ, List, [], ◌∷◌, Option, None, Some, Result, Ok, Err, inl, inr, refl, sym, subst}
use Rattle.tas_movie.specs.Content.{MovieContent}
use Rattle.tas_engines.specs.declared.fault.ReadFault.TheVariants.{Failed}
use Rattle.tas_engines.specs.declared.fault.ToolFault.{ToolFault}
use Rattle.tas_engines.specs.declared.fault.ToolFault.TheVariants.{Read}
use Rattle.tas_tool.specs.Talk.{IsCartTalkLeaving, IsMovieTalkLeaving}
use Rattle.tas_words.specs.declared.task.TalkWords.{TalkWords}
use Rattle.tas_words.specs.declared.task.Task.{Task}
use Rattle.tas_program.specs.declared.file_words.Permit.{Permit}
use Rattle.tas_program.specs.declared.file_words.WordFault.{WordFault}
use Rattle.tas_program.specs.declared.status.TaskFault.{TaskFault}
use Rattle.tas_program.specs.OutputWords.{OutputEnds}
use Rattle.tas_program.specs.declared.saving.SaveFault.{SaveFault}
use Rattle.tas_program.specs.Saving.{AllStay, Files, FileSteps, SaveEnds, WhereKnown}
use Rattle.tas_program.specs.Program.{FilesRun, IsSaveRun, LeavesOver, OverOne, OverTwo, SavesBy, SavesTalk, SavesTask, talk_of}
use Rattle.tas_program.specs.Files.{FileBytes}
use Rattle.tas_program.specs.Streams.{StreamBytes}

-- files of a conversation that can't be opened
pub talk_unopened : (files : List (Option (List ℕ))) (ran : FilesRun) (left : Option MovieContent) (old : StreamBytes) (end : Result (Unit {0}) ToolFault) (fault : ToolFault) → end ≡ Err fault → fault ≡ Read Failed → left ≡ None → LeavesOver files ran left old old end
talk_unopened files ran left old end fault is why none = inl (subst (λ (f : ToolFault). end ≡ Err f) why is, refl, none)

-- a conversation over a file that was opened
pub talk_over_one : (left : Option MovieContent) (one file rest : Option (List ℕ)) (old new : StreamBytes) (end : Result (Unit {0}) ToolFault) → file ≡ one
    → IsCartTalkLeaving left file rest old.input new.input old.output new.output end → LeavesOver (one ∷ []) (OverOne (IsCartTalkLeaving left)) left old new end
talk_over_one left one file rest old new end is talk = inr (rest ∷ [], subst (λ (f : Option (List ℕ)). IsCartTalkLeaving left f rest old.input new.input old.output new.output end) is talk)

-- the same of two files
pub talk_over_two : (left : Option MovieContent) (one two file rest file' rest' : Option (List ℕ)) (old new : StreamBytes) (end : Result (Unit {0}) ToolFault) → file ≡ one → file' ≡ two
    → IsMovieTalkLeaving left file rest file' rest' old.input new.input old.output new.output end → LeavesOver (one ∷ two ∷ []) (OverTwo (IsMovieTalkLeaving left)) left old new end
talk_over_two left one two file rest file' rest' old new end is is' talk =
    let second = subst (λ (f : Option (List ℕ)). IsMovieTalkLeaving left file rest f rest' old.input new.input old.output new.output end) is' talk in
    inr (rest ∷ rest' ∷ [], subst (λ (f : Option (List ℕ)). IsMovieTalkLeaving left f rest two rest' old.input new.input old.output new.output end) is second)

-- ---- the file that a movie replaces

-- where nothing is done, all files stay
pub none_touched : (files : Option Files) → WhereKnown AllStay files files
none_touched None = tt
none_touched (Some files) = λ other. refl

-- the text of a movie, and the bytes that are saved
pub saved_as : (steps : FileSteps) (name bytes text : List ℕ) (old new : Option Files) (end : Result (Unit {0}) SaveFault) → bytes ≡ text → SaveEnds steps name bytes old new end → SaveEnds steps name text old new end
saved_as steps name bytes text old new end is saves = subst (λ (b : List ℕ). SaveEnds steps name b old new end) is saves

-- ---- a task that replaces a file, whose words have no fault

saved_by : (steps : FileSteps) (files : FileBytes) (chosen : Task) (name : List ℕ) (old new : StreamBytes) (words : Result Permit WordFault) (permit : Permit) (end : Result (Unit {0}) TaskFault) (before after : Option Files) → words ≡ Ok permit
    → OutputEnds files.shown chosen name words → SavesBy steps (talk_of chosen) files chosen name old new before after end → IsSaveRun steps files chosen name old new end
saved_by steps files chosen name old new words permit end before after is (named, seen, file, each, inputs, shown, first) saves =
    (named, seen, file, each, inputs, shown, rw (first, is) (before, after, saves))

pub saved_talk : (steps : FileSteps) (files : FileBytes) (chosen : Task) (talk : TalkWords) (name : List ℕ) (old new : StreamBytes) (words : Result Permit WordFault) (permit : Permit) (end : Result (Unit {0}) TaskFault) (before after : Option Files) → words ≡ Ok permit
    → OutputEnds files.shown chosen name words → talk_of chosen ≡ Some talk → SavesTalk steps steps files talk name old new before after end → IsSaveRun steps files chosen name old new end
saved_talk steps files chosen talk name old new words permit end before after is ends which saves =
    saved_by steps files chosen name old new words permit end before after is ends (subst (λ (o : Option TalkWords). SavesBy steps o files chosen name old new before after end) (sym which) saves)

pub saved_text : (steps : FileSteps) (files : FileBytes) (chosen : Task) (name : List ℕ) (old new : StreamBytes) (words : Result Permit WordFault) (permit : Permit) (end : Result (Unit {0}) TaskFault) (before after : Option Files) → words ≡ Ok permit
    → OutputEnds files.shown chosen name words → talk_of chosen ≡ None → SavesTask steps steps files chosen name old new before after end → IsSaveRun steps files chosen name old new end
saved_text steps files chosen name old new words permit end before after is ends which saves =
    saved_by steps files chosen name old new words permit end before after is ends (subst (λ (o : Option TalkWords). SavesBy steps o files chosen name old new before after end) (sym which) saves)
