-- Conversations with a journal, one alone or those of a desk: when the journal's file is made, and how they end.
use Rattle.std.specs.Prelude.{◌≡◌, ◌⊎◌, ℕ, Bool, List, Option, None, Some, Result, Ok, Err}
use Rattle.std.specs.Global.{Global as GlobalType}
use Rattle.clap.specs.Walk.{Text}
use Rattle.tas_movie.specs.Content.{MovieContent}
use Rattle.tas_engines.specs.declared.fault.ReadFault.TheVariants.{Failed, Memory}
use Rattle.tas_engines.specs.declared.fault.ToolFault.TheVariants.{Read}
use Rattle.tas_journaling.specs.declared.talking.TalkFault.{TalkFault}
use Rattle.tas_journaling.specs.declared.talking.TalkFault.TheVariants as talk
use Rattle.tas_seat.specs.Lines.{DoorEnds, end_facts}
use Rattle.tas_tool.specs.Talk.{LinesRunTo, talk_state_from}
use Rattle.tas_tool.specs.NotedDesks.{IsNotedDeskRun}
use Rattle.tas_tool.specs.NotedTalks.{IsKeptAt, IsNotedTalkLeaving, IsNotedCartTalk, IsNotedMovieTalk}
use Rattle.tas_tool.specs.declared.noted_desk_runs.DeskFault.{DeskFault}
use Rattle.tas_tool.specs.declared.noted_desk_runs.DeskFault.TheVariants as desk
use Rattle.tas_words.specs.declared.task.DeskWords.{DeskWords}
use Rattle.tas_words.specs.declared.task.Start.{Start}
use Rattle.tas_words.specs.declared.task.Start.TheVariants.{Blank, Cart, Movie}
use Rattle.tas_program.specs.declared.file_words.WordFault.{WordFault}
use Rattle.tas_program.specs.declared.status.TaskFault.{TaskFault}
use Rattle.tas_program.specs.declared.status.TaskFault.TheVariants.{Word, Tool, NoJournal, Journal as NotNoted, SeatJournal}
use Rattle.tas_program.specs.FileWords.{journal_fault}
use Rattle.tas_program.specs.Files.{FileBytes, ends_of}
use Rattle.tas_program.specs.Saving.{FileSteps}
use Rattle.tas_program.specs.Streams.{StreamBytes}

-- nothing is done: no stream is read or written
abbrev pub IsUndone : TaskFault → StreamBytes → StreamBytes → Result (Unit {0}) TaskFault → Type 0
IsUndone fault old new end = (end ≡ Err fault) × (new ≡ old)

-- what runs with a journal: that these bytes of its file were brought to the disk, and what its file held before and holds afterwards
abbrev pub NotedRun : Type 0 → Type 1
NotedRun E = (kept : Option (List ℕ) → Type 0) → (held held' : Option (List ℕ)) → LinesRunTo E

-- the folder has made a new file of this name, which held some bytes then, and something ran with it as its journal, whose end is that of a task by `as_task`
pub record NotesInto {E : Type 0} (steps : FileSteps) (journal : Text) (as_task : Result (Unit {0}) E → Result (Unit {0}) TaskFault) (ran : NotedRun E) (old new : StreamBytes) (end : Result (Unit {0}) TaskFault) : Type 0 where
  pub held : Option (List ℕ)
  pub held' : Option (List ℕ)
  pub done : Result (Unit {0}) E
  pub made : steps.made journal held
  pub is : end ≡ as_task done
  pub runs : ran (steps.kept journal) held held' old.input new.input old.output new.output done

-- ---- a conversation alone

-- the end of a conversation with a journal, as that of a task
abbrev pub noted_end : Result (Unit {0}) TalkFault → Result (Unit {0}) TaskFault
noted_end (Ok u) = Ok u
noted_end (Err (talk.Tool fault)) = Err (Tool fault)
noted_end (Err (talk.Journal fault)) = Err (NotNoted fault)

-- it isn't held, and no movie is left
abbrev pub IsUnheld : TaskFault → Option MovieContent → StreamBytes → StreamBytes → Result (Unit {0}) TaskFault → Type 0
IsUnheld fault left old new end = IsUndone fault old new end × (left ≡ None)

-- it starts from nothing, from a cartridge's file or from a movie's two files, of which something is left; where it began, and the journal didn't fail
-- there, all that the file holds in the end was brought to the disk
abbrev pub from_blank : Option MovieContent → NotedRun TalkFault
from_blank left kept held held' input input' output output' end =
    IsNotedTalkLeaving left held held' (talk_state_from None) input input' output output' end × IsKeptAt (kept held') left end

abbrev pub from_cart : (cart : Option (List ℕ)) → Option MovieContent → NotedRun TalkFault
from_cart cart left kept held held' input input' output output' end =
    ((rest : Option (List ℕ)) × IsNotedCartTalk left held held' cart rest input input' output output' end) × IsKeptAt (kept held') left end

abbrev pub from_movie : (cart movie : Option (List ℕ)) → Option MovieContent → NotedRun TalkFault
from_movie cart movie left kept held held' input input' output output' end =
    ((rest : Option (List ℕ)) × (rest' : Option (List ℕ)) × IsNotedMovieTalk left held held' cart rest movie rest' input input' output output' end) × IsKeptAt (kept held') left end

-- the file can't be made, or the conversation runs with it, and leaves this
abbrev pub NotesOver : FileSteps → Text → (Option MovieContent → NotedRun TalkFault) → Option MovieContent → StreamBytes → StreamBytes → Result (Unit {0}) TaskFault → Type 0
NotesOver steps journal ran left old new end = IsUnheld NoJournal left old new end ⊎ NotesInto steps journal noted_end (ran left) old new end

-- the files that it starts from are opened before: one can't be, or they are
abbrev pub NotesTalk : FileSteps → FileBytes → Start → Text → Option MovieContent → StreamBytes → StreamBytes → Result (Unit {0}) TaskFault → Type 0
NotesTalk steps files Blank journal left old new end = NotesOver steps journal from_blank left old new end
NotesTalk steps files (Cart cart) journal left old new end =
    IsUnheld (Tool (Read Failed)) left old new end ⊎ NotesOver steps journal (from_cart (files.read cart.now)) left old new end
NotesTalk steps files (Movie start) journal left old new end =
    IsUnheld (Tool (Read Failed)) left old new end ⊎ NotesOver steps journal (from_movie (files.read start.cart.now) (files.read start.movie.now)) left old new end

-- ---- a desk

-- the end of a desk with a journal, as that of a task
abbrev pub desk_end : Result (Unit {0}) DeskFault → Result (Unit {0}) TaskFault
desk_end (Ok u) = Ok u
desk_end (Err (desk.Tool fault)) = Err (Tool fault)
desk_end (Err (desk.Journal fault)) = Err (NotNoted fault)
desk_end (Err (desk.Seat number fault)) = Err (SeatJournal number fault)

-- its doors have these ends, and it starts from a movie's two files, of which something is left; its conversations began, or none did. Nothing of the
-- input is read
abbrev pub from_doors : List DoorEnds → (cart movie : Option (List ℕ)) → NotedRun DeskFault
from_doors ends cart movie kept held held' input input' output output' end =
    (input' ≡ input)
    × ((rest : Option (List ℕ)) × (rest' : Option (List ℕ)) × (begun : Bool) × IsNotedDeskRun GlobalType end_facts kept ends ends held held' cart rest movie rest' output output' begun end)

-- the journal's file can't be made, or the desk runs with it
abbrev pub NotesDoors : FileSteps → Text → List DoorEnds → (cart movie : Option (List ℕ)) → StreamBytes → StreamBytes → Result (Unit {0}) TaskFault → Type 0
NotesDoors steps journal ends cart movie old new end =
    IsUndone NoJournal old new end ⊎ NotesInto steps journal desk_end (from_doors ends cart movie) old new end

-- what is done after the words were looked at: where one is at fault nothing is; else the files that it starts from are opened: one can't be, or memory is
-- refused for the pairs; or they are, and the file of the journal is made
abbrev pub NotesDeskAfter : FileSteps → FileBytes → DeskWords → Text → Option WordFault → StreamBytes → StreamBytes → Result (Unit {0}) TaskFault → Type 0
NotesDeskAfter steps files words journal (Some fault) old new end = IsUndone (Word fault) old new end
NotesDeskAfter steps files words journal None old new end =
    IsUndone (Tool (Read Failed)) old new end
    ⊎ (IsUndone (Tool (Read Memory)) old new end ⊎ NotesDoors steps journal (ends_of files words.pairs) (files.read words.cart.now) (files.read words.movie.now) old new end)

abbrev pub NotesDesk : FileSteps → FileBytes → DeskWords → Text → StreamBytes → StreamBytes → Result (Unit {0}) TaskFault → Type 0
NotesDesk steps files words journal old new end = NotesDeskAfter steps files words journal (journal_fault words journal) old new end
