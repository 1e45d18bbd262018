-- What a line of a script is answered at some history, and what it makes of it.
use Rattle.std.specs.Prelude.{◌≡◌, ℕ, ◌+◌, ◌==◌, List, length, Bool, if◌then◌else◌, Option, Some, None, Result, Ok, Err}
use Rattle.vcs_cpu.specs.declared.halt.Halt.{Halt}
use Rattle.vcs_cpu.specs.declared.halt.Halt.TheVariants.{Undocumented}
use Rattle.vcs_tia.specs.Picture.{lit_count}
use Rattle.vcs_inputs.specs.declared.input.Input.{Input}
use Rattle.tas_movie.specs.Content.{MovieContent}
use Rattle.tas_movie.specs.declared.edit.Edit.{Edit}
use Rattle.tas_movie.specs.declared.edit.Edit.TheVariants.{Load as LoadEdit}
use Rattle.tas_movie.specs.declared.edit.EditRefusal.{EditRefusal}
use Rattle.tas_movie.specs.declared.edit.EditRefusal.TheVariants.{Place, Long}
use Rattle.tas_movie.specs.Edit.{refusal, edited}
use Rattle.tas_published.specs.declared.entry.Entry.{Entry}
use Rattle.tas_published.specs.History.{most_edits, movie_of}
use Rattle.tas_session.specs.Answers.{answer_shot}
use Rattle.tas_published.specs.Looks.{answer_input}
use Rattle.tas_language.specs.declared.command.Command.{Command}
use Rattle.tas_language.specs.declared.command.Command.TheVariants.{Load, Edit as EditLine, Length, InputAt, Shot, Work}
use Rattle.tas_language.specs.declared.retouch.Retouch.{Retouch}
use Rattle.tas_language.specs.declared.reply.Reply.{Reply}
use Rattle.tas_language.specs.declared.reply.Reply.TheVariants.{Edited, Place as PlaceReply, Long as LongReply, Full, Measured, Pressed, NoFrame, Drawn, Halted, Worked, OutOfMemory}
use Rattle.tas_language.specs.Commands.{image_bytes}
use Rattle.tas_engines.specs.Changes.{EditContent, edit_of}
use Rattle.tas_engines.specs.Retouching.{retouch_of, retouch_refusal}

-- what a session of cartridge and inputs alone can't tell: whether memory was refused, how many frames were played, and how
-- many states a job gained and whether it was stale
pub record Unforeseen : Type 0 where
  pub refused : Bool
  pub ran : ℕ
  pub kept : ℕ
  pub stale : ℕ

-- what a history comes to: its movie, and how many edits it has
pub record Standing : Type 0 where
  pub movie : MovieContent
  pub made : ℕ

abbrev pub standing_at : MovieContent → ℕ → Standing
standing_at movie made = record { movie = movie; made = made }

abbrev pub standing_of : {A : Type 0} → List (Entry A) → Standing
standing_of history = standing_at (movie_of history) (length history)

-- ---- edits

abbrev pub refusal_reply : ℕ → Option EditRefusal → Option Reply
refusal_reply made None = None
refusal_reply made (Some (Place at len)) = Some (PlaceReply made len)
refusal_reply made (Some (Long len)) = Some (LongReply made len)

-- the reply to an edit that is refused, whatever memory there is: this many edits were made, or the movie doesn't allow it
abbrev pub refused_reply : ℕ → Option EditRefusal → Option Reply
refused_reply made refused = if made == most_edits then Some (Full made) else refusal_reply made refused

abbrev pub edit_reply : Option Reply → Bool → ℕ → ℕ → Reply
edit_reply None no_memory made len = if no_memory then OutOfMemory else Edited (made + 1) len
edit_reply (Some reply) no_memory made len = reply

abbrev pub standing_unless : {A : Type 0} → Option Reply → Bool → Standing → Edit A → Standing
standing_unless None no_memory stands edit = if no_memory then stands else record { movie = edited stands.movie edit; made = stands.made + 1 }
standing_unless (Some reply) no_memory stands edit = stands

-- the reply to an edit: where nothing refuses it and memory is there, it is made
abbrev pub reply_to_edit : {A : Type 0} → Bool → Standing → Edit A → Reply
reply_to_edit no_memory stands edit = edit_reply (refused_reply stands.made (refusal stands.movie edit)) no_memory stands.made (length (edited stands.movie edit).inputs)

-- what is made after an edit
abbrev pub standing_after_edit : {A : Type 0} → Bool → Standing → Edit A → Standing
standing_after_edit no_memory stands edit = standing_unless (refused_reply stands.made (refusal stands.movie edit)) no_memory stands edit

-- ---- edits that depend on what the movie has

-- the reply to one, which is no line of `tas script`: where nothing refuses it and memory is there, its edit is made
abbrev pub reply_to_retouch : Bool → Standing → Retouch → Reply
reply_to_retouch no_memory stands retouch =
    edit_reply (refused_reply stands.made (retouch_refusal stands.movie retouch)) no_memory stands.made (length (edited stands.movie (retouch_of stands.movie.inputs retouch)).inputs)

-- what is made after it
abbrev pub standing_after_retouch : Bool → Standing → Retouch → Standing
standing_after_retouch no_memory stands retouch =
    standing_unless (refused_reply stands.made (retouch_refusal stands.movie retouch)) no_memory stands (retouch_of stands.movie.inputs retouch)

-- the reply to it, and what is made then
abbrev pub IsRetouchTurn : Standing → Retouch → Reply → Standing → Type 0
IsRetouchTurn stands retouch reply next =
    (no_memory : Bool) × (reply ≡ reply_to_retouch no_memory stands retouch) × (next ≡ standing_after_retouch no_memory stands retouch)

-- ---- other lines

abbrev pub input_reply : Standing → Option Input → Reply
input_reply stands None = NoFrame stands.made (length stands.movie.inputs)
input_reply stands (Some input) = Pressed stands.made input

abbrev pub halted_reply : ℕ → Halt → Reply
halted_reply made (Undocumented at opcode) = Halted made at opcode

abbrev pub frame_reply : Unforeseen → ℕ → ℕ → Result (List ℕ) Halt → Reply
frame_reply unforeseen made k (Ok picture) = Drawn made k unforeseen.ran (lit_count picture)
frame_reply unforeseen made k (Err halt) = halted_reply made halt

abbrev pub shot_reply : Unforeseen → Standing → ℕ → Option (Result (List ℕ) Halt) → Reply
shot_reply unforeseen stands k None = NoFrame stands.made (length stands.movie.inputs)
shot_reply unforeseen stands k (Some answer) = if unforeseen.refused then OutOfMemory else frame_reply unforeseen stands.made k answer

abbrev pub work_reply : Unforeseen → Reply
work_reply unforeseen = if unforeseen.refused then OutOfMemory else Worked 1 unforeseen.kept unforeseen.stale

-- ---- any line

-- the edit that a line asks for which loads this cartridge
abbrev pub load_edit : List ℕ → EditContent
load_edit image = LoadEdit image

-- the reply to a command at what was made so far
abbrev pub reply_to : Unforeseen → Standing → Command → Reply
reply_to unforeseen stands (Load image) = reply_to_edit unforeseen.refused stands (load_edit (image_bytes image))
reply_to unforeseen stands (EditLine change) = reply_to_edit unforeseen.refused stands (edit_of change)
reply_to unforeseen stands Length = Measured stands.made (length stands.movie.inputs)
reply_to unforeseen stands (InputAt k) = input_reply stands (answer_input stands.movie k)
reply_to unforeseen stands (Shot k) = shot_reply unforeseen stands k (answer_shot stands.movie k)
reply_to unforeseen stands (Work k) = work_reply unforeseen

-- what is made after a command
abbrev pub standing_after : Unforeseen → Standing → Command → Standing
standing_after unforeseen stands (Load image) = standing_after_edit unforeseen.refused stands (load_edit (image_bytes image))
standing_after unforeseen stands (EditLine change) = standing_after_edit unforeseen.refused stands (edit_of change)
standing_after unforeseen stands Length = stands
standing_after unforeseen stands (InputAt k) = stands
standing_after unforeseen stands (Shot k) = stands
standing_after unforeseen stands (Work k) = stands

-- the reply to a command, and what is made then
abbrev pub IsTurn : Standing → Command → Reply → Standing → Type 0
IsTurn stands command reply next = (unforeseen : Unforeseen) × (reply ≡ reply_to unforeseen stands command) × (next ≡ standing_after unforeseen stands command)
