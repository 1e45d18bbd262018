-- Conversations with a journal, one alone or those of a desk.
use Rattle.std.proofs.Common.{◌≡◌, ℕ, List, Option, None, Some, Result, Ok, Err, inl, inr, refl, sym, subst}
use Rattle.std.specs.Borrow.{Bor}
use Rattle.clap.specs.Walk.{Text}
use Rattle.tas_movie.specs.Content.{MovieContent}
use Rattle.tas_engines.specs.declared.fault.ReadFault.TheVariants.{Failed}
use Rattle.tas_engines.specs.declared.fault.ToolFault.{ToolFault}
use Rattle.tas_engines.specs.declared.fault.ToolFault.TheVariants.{Read}
use Rattle.tas_journaling.specs.declared.talking.TalkFault.{TalkFault}
use Rattle.tas_journaling.specs.declared.talking.TalkFault.TheVariants as talk
use Rattle.tas_tool.specs.declared.noted_desk_runs.DeskFault.{DeskFault}
use Rattle.tas_tool.specs.declared.noted_desk_runs.DeskFault.TheVariants as desk
use Rattle.tas_words.specs.declared.task.DeskWords.{DeskWords}
use Rattle.tas_words.specs.declared.task.Start.{Start}
use Rattle.tas_words.specs.declared.task.Start.TheVariants.{Blank, Cart, Movie}
use Rattle.tas_program.specs.declared.saving.SaveFault.{SaveFault}
use Rattle.tas_program.specs.declared.status.TaskFault.{TaskFault}
use Rattle.tas_program.specs.declared.status.TaskFault.TheVariants.{Tool, NoJournal, Save as NotSaved}
use Rattle.tas_program.specs.Files.{FileBytes}
use Rattle.tas_program.specs.declared.file_words.WordFault.{WordFault}
use Rattle.tas_program.specs.FileWords.{journal_fault}
use Rattle.tas_program.specs.Noting.{IsUnheld, NotedRun, NotesDeskAfter, NotesInto, NotesOver, desk_end, from_blank, from_cart, from_movie, noted_end}
use Rattle.tas_program.specs.Program.{DeskBy, LeavesBy}
use Rattle.tas_program.specs.Saving.{FileSteps}
use Rattle.tas_program.specs.Streams.{StreamBytes}

-- a journal's file that can't be made
pub not_made : (steps : FileSteps) (journal : Text) (ran : Option MovieContent → NotedRun TalkFault) (left : Option MovieContent) (old : StreamBytes) (end : Result (Unit {0}) TaskFault) (fault : TaskFault) → end ≡ Err fault → fault ≡ NoJournal → left ≡ None
    → NotesOver steps journal ran left old old end
not_made steps journal ran left old end fault is why none = inl ((subst (λ (f : TaskFault). end ≡ Err f) why is, refl), none)

-- one that was made, and with which something ran
pub made_into : {E : Type 0} (steps : FileSteps) (journal : Text) (as_task : Result (Unit {0}) E → Result (Unit {0}) TaskFault) (ran : NotedRun E) (held held' made : Option (List ℕ)) (old new : StreamBytes) (done : Result (Unit {0}) E) (end : Result (Unit {0}) TaskFault)
    → steps.made journal made → held ≡ made → end ≡ as_task done → (name : Text) → journal ≡ name → ran (steps.kept name) held held' old.input new.input old.output new.output done → NotesInto steps journal as_task ran old new end
made_into steps journal as_task ran held held' made old new done end makes same is name named runs = record {
  held = held;
  held' = held';
  done = done;
  made = subst (steps.made journal) (sym same) makes;
  is = is;
  runs = subst (λ (n : Text). ran (steps.kept n) held held' old.input new.input old.output new.output done) (sym named) runs;
}

-- the same of a conversation alone
pub noted_into : (steps : FileSteps) (journal : Text) (ran : Option MovieContent → NotedRun TalkFault) (left left' : Option MovieContent) (held held' made : Option (List ℕ)) (old new : StreamBytes) (done : Result (Unit {0}) TalkFault) (end : Result (Unit {0}) TaskFault)
    → steps.made journal made → held ≡ made → end ≡ noted_end done → left ≡ left' → (name : Text) → journal ≡ name → ran left' (steps.kept name) held held' old.input new.input old.output new.output done → NotesOver steps journal ran left old new end
noted_into steps journal ran left left' held held' made old new done end makes same is leaves name named runs =
    inr (made_into steps journal noted_end (ran left) held held' made old new done end makes same is name named (subst (λ (l : Option MovieContent). ran l (steps.kept name) held held' old.input new.input old.output new.output done) (sym leaves) runs))

-- ---- what it starts from

-- files that can't be opened
pub noted_unopened : (left : Option MovieContent) (old : StreamBytes) (end : Result (Unit {0}) TaskFault) (fault : ToolFault) → end ≡ Err (Tool fault) → fault ≡ Read Failed → left ≡ None → IsUnheld (Tool (Read Failed)) left old old end
noted_unopened left old end fault is why none = ((subst (λ (f : ToolFault). end ≡ Err (Tool f)) why is, refl), none)

-- files that were opened
pub noted_from_cart : (steps : FileSteps) (journal : Text) (one file : Option (List ℕ)) (left : Option MovieContent) (old new : StreamBytes) (end : Result (Unit {0}) TaskFault) → file ≡ one
    → NotesOver steps journal (from_cart file) left old new end → NotesOver steps journal (from_cart one) left old new end
noted_from_cart steps journal one file left old new end is notes = subst (λ (f : Option (List ℕ)). NotesOver steps journal (from_cart f) left old new end) is notes

pub noted_from_movie : (steps : FileSteps) (journal : Text) (one two file file' : Option (List ℕ)) (left : Option MovieContent) (old new : StreamBytes) (end : Result (Unit {0}) TaskFault) → file ≡ one → file' ≡ two
    → NotesOver steps journal (from_movie file file') left old new end → NotesOver steps journal (from_movie one two) left old new end
noted_from_movie steps journal one two file file' left old new end is is' notes =
    subst (λ (f : Option (List ℕ)). NotesOver steps journal (from_movie one f) left old new end) is' (subst (λ (f : Option (List ℕ)). NotesOver steps journal (from_movie f file') left old new end) is notes)

-- ---- no conversation ends with a fault of a file that was to be replaced

no_end : (done : Result (Unit {0}) TalkFault) (fault : SaveFault) → ◌≡◌ {A = Result (Unit {0}) TaskFault} (Err (NotSaved fault)) (noted_end done) → ⊥
no_end (Ok u) fault is = cc
no_end (Err (talk.Tool other)) fault is = cc
no_end (Err (talk.Journal other)) fault is = cc

no_noted_fault : (steps : FileSteps) (journal : Text) (ran : Option MovieContent → NotedRun TalkFault) (left : Option MovieContent) (old new : StreamBytes) (fault : SaveFault) → NotesOver steps journal ran left old new (Err (NotSaved fault)) → ⊥
no_noted_fault steps journal ran left old new fault (inl ((is, same), none)) = cc
no_noted_fault steps journal ran left old new fault (inr into) = no_end into.done fault into.is

pub no_talk_fault : (steps : FileSteps) (files : FileBytes) (start : Start) (journal : Option (Bor (List ℕ))) (left : Option MovieContent) (old new : StreamBytes) (fault : SaveFault) → LeavesBy steps files start journal left old new (Err (NotSaved fault)) → ⊥
no_talk_fault steps files start None left old new fault (Ok u, is, leaves) = cc
no_talk_fault steps files start None left old new fault (Err other, is, leaves) = cc
no_talk_fault steps files Blank (Some journal) left old new fault notes = no_noted_fault steps journal.now from_blank left old new fault notes
no_talk_fault steps files (Cart cart) (Some journal) left old new fault (inl ((is, same), none)) = cc
no_talk_fault steps files (Cart cart) (Some journal) left old new fault (inr notes) = no_noted_fault steps journal.now (from_cart (files.read cart.now)) left old new fault notes
no_talk_fault steps files (Movie start) (Some journal) left old new fault (inl ((is, same), none)) = cc
no_talk_fault steps files (Movie start) (Some journal) left old new fault (inr notes) = no_noted_fault steps journal.now (from_movie (files.read start.cart.now) (files.read start.movie.now)) left old new fault notes

-- nor does a desk
no_desk_end : (done : Result (Unit {0}) DeskFault) (fault : SaveFault) → ◌≡◌ {A = Result (Unit {0}) TaskFault} (Err (NotSaved fault)) (desk_end done) → ⊥
no_desk_end (Ok u) fault is = cc
no_desk_end (Err (desk.Tool other)) fault is = cc
no_desk_end (Err (desk.Journal other)) fault is = cc
no_desk_end (Err (desk.Seat number other)) fault is = cc

no_noted_desk : (steps : FileSteps) (files : FileBytes) (words : DeskWords) (journal : Text) (word : Option WordFault) (old new : StreamBytes) (fault : SaveFault) → NotesDeskAfter steps files words journal word old new (Err (NotSaved fault)) → ⊥
no_noted_desk steps files words journal (Some word) old new fault (is, same) = cc
no_noted_desk steps files words journal None old new fault (inl (is, same)) = cc
no_noted_desk steps files words journal None old new fault (inr (inl (is, same))) = cc
no_noted_desk steps files words journal None old new fault (inr (inr (inl (is, same)))) = cc
no_noted_desk steps files words journal None old new fault (inr (inr (inr into))) = no_desk_end into.done fault into.is

pub no_desk_fault : (steps : FileSteps) (files : FileBytes) (words : DeskWords) (journal : Option (Bor (List ℕ))) (old new : StreamBytes) (fault : SaveFault) → DeskBy steps files words journal old new (Err (NotSaved fault)) → ⊥
no_desk_fault steps files words None old new fault (Ok u, is, does) = cc
no_desk_fault steps files words None old new fault (Err other, is, does) = cc
no_desk_fault steps files words (Some journal) old new fault notes = no_noted_desk steps files words journal.now (journal_fault words journal.now) old new fault notes
