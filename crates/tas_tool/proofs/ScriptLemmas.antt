-- Whole scripts.
use Rattle.std.proofs.Common.{◌≡◌, ℕ, ◌+◌, ◌≤◌, List, [], ◌∷◌, ◌++◌, length, Option, Result, Ok, Err, inl, inr, refl, sym, ap, subst, ◌∙◌, arith, append_assoc, length-append}
use Rattle.std.proofs.lemmas.List.{append-nil}
use Rattle.std.specs.List.{flat_map}
use Rattle.std.specs.Io.KnownBytes.{Appends}
use Rattle.std.proofs.KnownBytes.{Appends-nil}
use Rattle.tas_engines.specs.declared.fault.RunFault.{RunFault}
use Rattle.tas_engines.specs.declared.fault.RunFault.TheVariants.{Write, Size, Text, NoFrame as OffMovie, Range as OffRange, Halted as Stopped, HaltedFrame as StoppedFrame, Script, Place, Long, Names as NoNames, NoPlace, NoEntry, Foreign, Memory}
use Rattle.tas_engines.specs.declared.fault.ToolFault.{ToolFault}
use Rattle.tas_engines.specs.Faults.{reported}
use Rattle.tas_engines.specs.Input.{IsReadWhole}
use Rattle.tas_engines.specs.Output.{StopsWriting}
use Rattle.tas_language.specs.declared.command.Command.{Command}
use Rattle.tas_language.specs.declared.reply.Reply.{Reply}
use Rattle.tas_language.specs.Commands.{Says}
use Rattle.byte_text.specs.Splitting.{NoByte}
use Rattle.tas_language.specs.Replies.{reply_text}
use Rattle.tas_movie.specs.declared.edit.Edit.{Edit}
use Rattle.tas_published.specs.declared.entry.Entry.{Entry}
use Rattle.tas_published.specs.History.{entries_of}
use Rattle.tas_desk.specs.Seats.{SeatContent}
use Rattle.tas_seat.specs.Turns.{Standing, standing_of, reply_to, standing_after, IsTurn}
use Rattle.tas_seat.specs.Seats.{IsAnswered}
use Rattle.tas_seat.specs.Outcomes.{IsUnanswered}
use Rattle.tas_seat.proofs.HistoryLemmas.{Leaves, leaves_after, leaves_same, leaves_seen}
use Rattle.tas_tool.specs.Scripts.{Turn, turn_line, AreSaid, standing_after_all, replies_to_all, IsClear, IsUnclear, IsStop, Reads, Answers, AnswersFrom, EndsWithReplies, RunsScript, IsScriptRun}
use Rattle.byte_text.proofs.SplitLemmas.{no_parts, same_front}
use Rattle.tas_tool.specs.Inside.Alone.{SeesOwn}
use Rattle.tas_tool.proofs.AloneLemmas.{at_front, seen_after}

-- ---- one line more

read_more : (turns : List Turn) (turn : Turn) → flat_map turn_line (turns ++ turn ∷ []) ≡ flat_map turn_line turns ++ turn_line turn
read_more [] turn = append-nil (turn_line turn)
read_more (t ∷ turns) turn = ap (λ (r : List ℕ). turn_line t ++ r) (read_more turns turn) ∙ sym (append_assoc (turn_line t) (flat_map turn_line turns) (turn_line turn))

said_more : (turns : List Turn) (turn : Turn) → AreSaid turns → Says turn.said turn.command → NoByte 10 turn.said → AreSaid (turns ++ turn ∷ [])
unfolding AreSaid
said_more [] turn h s n = ((s, n), tt)
said_more (t ∷ turns) turn h s n = (h.0, said_more turns turn h.1 s n)

standing_more : (own : Standing) (turns : List Turn) (turn : Turn) → standing_after_all own (turns ++ turn ∷ []) ≡ standing_after turn.unforeseen (standing_after_all own turns) turn.command
unfolding standing_after_all
standing_more own [] turn = refl
standing_more own (t ∷ turns) turn = standing_more (standing_after t.unforeseen own t.command) turns turn

replies_more : (own : Standing) (turns : List Turn) (turn : Turn)
    → replies_to_all own (turns ++ turn ∷ []) ≡ replies_to_all own turns ++ reply_text (reply_to turn.unforeseen (standing_after_all own turns) turn.command)
unfolding replies_to_all standing_after_all
replies_more own [] turn = append-nil (reply_text (reply_to turn.unforeseen own turn.command))
replies_more own (t ∷ turns) turn =
    let first : List ℕ = reply_text (reply_to t.unforeseen own t.command) in
    let next : Standing = standing_after t.unforeseen own t.command in
    ap (λ (r : List ℕ). first ++ r) (replies_more next turns turn)
    ∙ sym (append_assoc first (replies_to_all next turns) (reply_text (reply_to turn.unforeseen (standing_after_all next turns) turn.command)))

pub reads_none : (bytes : List ℕ) → Reads bytes [] bytes
unfolding AreSaid
reads_none bytes = record { text = refl; said = tt }

-- nothing is read at first
pub begun : (own : Standing) → (standing_after_all own [] ≡ own) × (replies_to_all own [] ≡ [])
unfolding standing_after_all replies_to_all
begun own = (refl, refl)

pub count_more : (turns : List Turn) (turn : Turn) → length (turns ++ turn ∷ []) ≡ length turns + 1
count_more turns turn = length-append turns (turn ∷ [])

pub reads_more : (bytes rest first after : List ℕ) (turns : List Turn) (turn : Turn) → Reads bytes turns rest → turn.said ≡ first → rest ≡ first ++ 10 ∷ after → NoByte 10 first → Says first turn.command
    → Reads bytes (turns ++ turn ∷ []) after
reads_more bytes rest first after turns turn reads same is none says = record {
  text = reads.text ∙ ap (λ (r : List ℕ). flat_map turn_line turns ++ r) (is ∙ sym (append_assoc first (10 ∷ []) after) ∙ ap (λ (l : List ℕ). (l ++ 10 ∷ []) ++ after) (sym same))
      ∙ sym (append_assoc (flat_map turn_line turns) (turn.said ++ 10 ∷ []) after)
      ∙ ap (λ (r : List ℕ). r ++ after) (sym (read_more turns turn));
  said = said_more turns turn reads.said (subst (λ (l : List ℕ). Says l turn.command) (sym same) says) (subst (λ (l : List ℕ). NoByte 10 l) (sym same) none);
}

pub standing_answered : (start old new : Standing) (turns : List Turn) (turn : Turn) (reply : Reply) → standing_after_all start turns ≡ old → new ≡ standing_after turn.unforeseen old turn.command
    → standing_after_all start (turns ++ turn ∷ []) ≡ new
standing_answered start old new turns turn reply at is = standing_more start turns turn ∙ ap (λ (f : Standing). standing_after turn.unforeseen f turn.command) at ∙ sym is

pub replies_answered : (start old : Standing) (turns : List Turn) (turn : Turn) (reply : Reply) (before words after : List ℕ) → standing_after_all start turns ≡ old
    → reply ≡ reply_to turn.unforeseen old turn.command → before ≡ replies_to_all start turns → words ≡ reply_text reply → after ≡ before ++ words
    → after ≡ replies_to_all start (turns ++ turn ∷ [])
replies_answered start old turns turn reply before words after at is text line put =
    put
    ∙ ap (λ (l : List ℕ). l ++ words) text
    ∙ ap (λ (l : List ℕ). replies_to_all start turns ++ l) (line ∙ ap reply_text (is ∙ ap (λ (f : Standing). reply_to turn.unforeseen f turn.command) (sym at)))
    ∙ sym (replies_more start turns turn)

-- ---- a line that is understood, and one that isn't

pub clear_line : (rest first after : List ℕ) (command : Command) → rest ≡ first ++ 10 ∷ after → NoByte 10 first → Says first command → IsClear rest
clear_line rest first after command is none says = record { said = first; more = after; command = command; whole = none; text = is; says = says }

pub unclear_unsplit : (rest : List ℕ) → NoByte 10 rest → IsUnclear rest
unclear_unsplit rest none = λ clear. no_parts 10 clear.said clear.more (subst (NoByte 10) clear.text none)

pub unclear_line : (rest first after : List ℕ) → rest ≡ first ++ 10 ∷ after → NoByte 10 first → ((command : Command) → Says first command → ⊥) → IsUnclear rest
unclear_line rest first after is none never = λ clear.
    never clear.command (subst (λ (s : List ℕ). Says s clear.command) (same_front 10 clear.said first clear.more after clear.whole none (sym clear.text ∙ is)).0 clear.says)

pub split_length : (rest a b : List ℕ) → rest ≡ a ++ 10 ∷ b → length b + 1 ≤ length rest
split_length rest a b is = rw is (omega (arith, length-append a (10 ∷ b)))

pub reads_all : (bytes rest : List ℕ) (turns : List Turn) → length rest ≡ 0 → Reads bytes turns rest → Reads bytes turns []
reads_all bytes [] turns none reads = reads
reads_all bytes (b ∷ rest) turns none reads = absurd (omega arith)

-- ---- the engine

-- there is no desk for it
pub nothing_answered : (bytes : List ℕ) (old : Option (List ℕ)) → RunsScript bytes old old (Err Memory)
nothing_answered bytes old = inl ([], inl (refl, tt), Appends-nil old)

-- the lines are answered from so much on
pub answered_from : (start own : Standing) (bytes text : List ℕ) (end : Result (Unit {0}) RunFault) → own ≡ start → Answers own bytes text end → AnswersFrom start bytes text end
answered_from start own bytes text (Ok u) at answers = subst (λ (f : Standing). Answers f bytes text (Ok u)) at answers
answered_from start own bytes text (Err fault) at answers = inr (subst (λ (f : Standing). Answers f bytes text (Err fault)) at answers)

-- ---- a command on a desk of one seat

-- a command that is answered leaves its edits of the seat
pub command_leaves : (A : Type 0) (before now : SeatContent A) (command : Command) (reply : Reply) → IsAnswered A before now command reply → (edits : List (Edit A)) × Leaves before now edits
command_leaves A before now command reply is = (_, leaves_after before now is.at _ is.seat)

-- its reply is the definition's at what the seat had seen
pub command_turn : (A : Type 0) (before now : SeatContent A) (command : Command) (reply : Reply) → IsAnswered A before now command reply → before.made ≤ length before.front → SeesOwn now
    → IsTurn (standing_of before.front) command reply (standing_of now.front)
command_turn A before now command reply is seen own =
    subst (λ (h : List (Entry A)). IsTurn (standing_of h) command reply (standing_of now.front)) (at_front before now is.at _ is.seat seen own) is.turn

-- a command that isn't answered leaves none
pub unanswered_leaves : {A : Type 0} (before now : SeatContent A) (fault : RunFault) → IsUnanswered before now fault → Leaves before now []
unanswered_leaves before now NoEntry is = leaves_same before now is
unanswered_leaves before now Foreign is = leaves_seen before now is.seen
unanswered_leaves before now (Write written) is = absurd is
unanswered_leaves before now (Size n) is = absurd is
unanswered_leaves before now (Text error) is = absurd is
unanswered_leaves before now (OffMovie frame len) is = absurd is
unanswered_leaves before now (OffRange from to len) is = absurd is
unanswered_leaves before now (NoNames row kind) is = absurd is
unanswered_leaves before now (Stopped at opcode) is = absurd is
unanswered_leaves before now (StoppedFrame frame at opcode) is = absurd is
unanswered_leaves before now (Script line) is = absurd is
unanswered_leaves before now (Place line) is = absurd is
unanswered_leaves before now (Long line) is = absurd is
unanswered_leaves before now NoPlace is = absurd is
unanswered_leaves before now Memory is = absurd is

-- and stops the script at a line that is understood, where the seat has seen just its own edits
pub desk_stop : {A : Type 0} (before now : SeatContent A) (fault : RunFault) (turns : List Turn) (rest : List ℕ) → IsClear rest → IsUnanswered before now fault → before.made ≤ length before.front → SeesOwn now → IsStop rest turns fault
desk_stop {A} before now Foreign turns rest clear is seen own =
    let counted : entries_of now.number now.front ≡ length now.front = ap (λ (n : ℕ). entries_of n now.front) own.number ∙ own.alone in
    absurd (is.other (omega (arith, counted, own.few, seen_after before now [] (leaves_seen before now is.seen) seen)))
desk_stop before now NoEntry turns rest clear is seen own = clear
desk_stop before now (Write written) turns rest clear is seen own = absurd is
desk_stop before now (Size n) turns rest clear is seen own = absurd is
desk_stop before now (Text error) turns rest clear is seen own = absurd is
desk_stop before now (OffMovie frame len) turns rest clear is seen own = absurd is
desk_stop before now (OffRange from to len) turns rest clear is seen own = absurd is
desk_stop before now (NoNames row kind) turns rest clear is seen own = absurd is
desk_stop before now (Stopped at opcode) turns rest clear is seen own = absurd is
desk_stop before now (StoppedFrame frame at opcode) turns rest clear is seen own = absurd is
desk_stop before now (Script line) turns rest clear is seen own = absurd is
desk_stop before now (Place line) turns rest clear is seen own = absurd is
desk_stop before now (Long line) turns rest clear is seen own = absurd is
desk_stop before now NoPlace turns rest clear is seen own = absurd is
desk_stop before now Memory turns rest clear is seen own = absurd is

-- ---- the replies

-- the replies are written, or a write of them failed
pub written : (answers : List ℕ → Result (Unit {0}) RunFault → Type 0) (items text : List ℕ) (old new : Option (List ℕ)) (end : Result (Unit {0}) RunFault) → answers items end → text ≡ items → Appends old new text
    → EndsWithReplies answers old new end
written answers items text old new (Ok u) at is out = (items, at, subst (Appends old new) is out)
written answers items text old new (Err f) at is out = inl (items, at, subst (Appends old new) is out)

pub broken_off : (answers : List ℕ → Result (Unit {0}) RunFault → Type 0) (items text : List ℕ) (old new : Option (List ℕ)) (end : Result (Unit {0}) RunFault) (fault : RunFault) → answers items end → text ≡ items
    → StopsWriting old new text fault → EndsWithReplies answers old new (Err fault)
broken_off answers items text old new end fault at is stops = inr (record { text = text; end = end; answer = subst (λ (t : List ℕ). answers t end) (sym is) at; stops = stops })

-- a script was read and run
pub script_ran : (input input' output output' : Option (List ℕ)) (read bytes : List ℕ) (end : Result (Unit {0}) RunFault) (result : Result (Unit {0}) ToolFault) → IsReadWhole input input' read → bytes ≡ read
    → RunsScript bytes output output' end → result ≡ reported end → IsScriptRun input input' output output' result
script_ran input input' output output' read bytes end result whole same runs is = inr (end, is, (bytes, subst (IsReadWhole input input') (sym same) whole, runs))
