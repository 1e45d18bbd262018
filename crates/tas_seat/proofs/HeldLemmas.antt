-- Seats' conversations with their other ends.
use Rattle.std.proofs.Common.{◌≡◌, ℕ, ◌≤◌, List, [], Option, None, Result, Ok, Err, inl, inr, refl, sym, subst, ◌∙◌}
use mathlib.Core.List.{IsPrefix}
use Rattle.tas_movie.specs.declared.edit.Edit.{Edit}
use Rattle.tas_published.specs.declared.entry.Entry.{Entry}
use Rattle.tas_published.specs.History.{entries_of}
use Rattle.tas_desk.specs.Seats.{SeatContent, IsSettled}
use Rattle.tas_engines.specs.declared.fault.ReadFault.TheVariants.{Failed, TooLong, Memory as ReadMemory}
use Rattle.tas_engines.specs.declared.fault.RunFault.TheVariants.{Write, Size, Text, NoFrame, Range, Halted, HaltedFrame, Script, Place, Long, Names as NoNames, NoPlace, NoEntry, Foreign, Memory}
use Rattle.tas_engines.specs.declared.fault.ToolFault.{ToolFault}
use Rattle.tas_engines.specs.declared.fault.ToolFault.TheVariants.{Read, Run, Seat}
use Rattle.tas_engines.specs.declared.fault.SeatFault.{SeatFault}
use Rattle.tas_engines.specs.declared.fault.SeatFault.TheVariants.{NotOpened, Foreign as ForeignSeat}
use Rattle.tas_seat.specs.Conversations.{TalkingSeat, talking}
use Rattle.tas_seat.specs.Talk.{AreExchanges, TalkEnds, IsTalk, all_edits}
use Rattle.tas_seat.specs.Histories.{IsInHistory}
use Rattle.tas_seat.specs.Lines.{DoorFacts, IsHeld, WasHeld, seat_end}
use Rattle.tas_seat.proofs.HistoryLemmas.{talk_seen, talk_in_history}

-- a conversation was held over what the door gave
pub held_talk : {A D : Type 0} (facts : DoorFacts D) (door door' : D) (start last : SeatContent A) (input input' output output' : Option (List ℕ)) (ended : Result (Unit {0}) ToolFault) (end : Result (Unit {0}) SeatFault) → input ≡ facts.given door
    → output ≡ facts.held door → IsTalk start last input input' output output' ended → end ≡ seat_end ended → facts.left door' input' output' → WasHeld facts door door' start last end
held_talk {A} facts door door' start last input input' output output' ended end i o talk is left =
    let talk' : IsTalk start last (facts.given door) input' (facts.held door) output' ended =
    subst (λ (x : Option (List ℕ)). IsTalk start last (facts.given door) input' x output' ended) o (subst (λ (x : Option (List ℕ)). IsTalk start last x input' output output' ended) i talk) in
    (all_edits talk', inr (input', output', ended, talk', refl, is, left))

-- a door that didn't open
pub held_shut : {A D : Type 0} (facts : DoorFacts D) (door door' : D) (seat : SeatContent A) → facts.refused door' → WasHeld facts door door' seat seat (Err NotOpened)
held_shut facts door door' seat refused = ([], inl (refl, refused, refl, refl))

-- ---- what came of a line

silent : {A : Type 0} (start last : SeatContent A) → last ≡ start → IsTalk start last None None None None (Ok tt)
unfolding AreExchanges
silent {A} start last same = record {
  exchanges = [];
  seat = talking start None;
  rest = [];
  more = [];
  answered = refl;
  left = tt;
  ends = (record { same = same; none = refl }, inr (tt, tt, tt));
}

-- a seat's conversation leaves its number, and it has seen more then, and all that it had seen
pub held_seen : {A D : Type 0} (facts : DoorFacts D) (door door' : D) (start last : SeatContent A) (end : Result (Unit {0}) SeatFault) → WasHeld facts door door' start last end → (last.number ≡ start.number) × IsPrefix start.front last.front
held_seen facts door door' start last end (edits, inl (is, refused, same, none)) = talk_seen start last _ _ _ _ (Ok tt) (silent start last same)
held_seen facts door door' start last end (edits, inr (input', output', ended, talk, all, is, left)) = talk_seen start last _ _ _ _ ended talk

-- an end that isn't of other edits isn't reported as one
not_foreign : {A : Type 0} (seat : TalkingSeat A) (last : SeatContent A) (rest told : List ℕ) (more : List (Edit A)) (input output output' : Option (List ℕ)) (ended : Result (Unit {0}) ToolFault) → TalkEnds seat last rest told more input output output' ended
    → (ended ≡ Err (Run Foreign) → ⊥) → seat_end ended ≡ Err ForeignSeat → ⊥
not_foreign seat last rest told more input output output' (Ok u) ends other e = cc e
not_foreign seat last rest told more input output output' (Err (Read Failed)) ends other e = cc e
not_foreign seat last rest told more input output output' (Err (Read TooLong)) ends other e = ends
not_foreign seat last rest told more input output output' (Err (Read ReadMemory)) ends other e = ends
not_foreign seat last rest told more input output output' (Err (Run (Write written))) ends other e = cc e
not_foreign seat last rest told more input output output' (Err (Run Memory)) ends other e = cc e
not_foreign seat last rest told more input output output' (Err (Run NoEntry)) ends other e = cc e
not_foreign seat last rest told more input output output' (Err (Run Foreign)) ends other e = other refl
not_foreign seat last rest told more input output output' (Err (Run (Size n))) ends other e = ends
not_foreign seat last rest told more input output output' (Err (Run (Text error))) ends other e = ends
not_foreign seat last rest told more input output output' (Err (Run (NoFrame frame len))) ends other e = ends
not_foreign seat last rest told more input output output' (Err (Run (Range from to len))) ends other e = ends
not_foreign seat last rest told more input output output' (Err (Run (NoNames row kind))) ends other e = ends
not_foreign seat last rest told more input output output' (Err (Run (Halted at opcode))) ends other e = ends
not_foreign seat last rest told more input output output' (Err (Run (HaltedFrame frame at opcode))) ends other e = ends
not_foreign seat last rest told more input output output' (Err (Run (Script line))) ends other e = ends
not_foreign seat last rest told more input output output' (Err (Run (Place line))) ends other e = ends
not_foreign seat last rest told more input output output' (Err (Run (Long line))) ends other e = ends
not_foreign seat last rest told more input output output' (Err (Run NoPlace)) ends other e = ends
not_foreign seat last rest told more input output output' (Err (Seat number fault)) ends other e = ends

-- a seat's conversation, in the history of which the closed desk says that the seat's part is just what it made
pub held_in_history : {A D : Type 0} (facts : DoorFacts D) (door door' : D) (start last : SeatContent A) (edits : List (Edit A)) (end : Result (Unit {0}) SeatFault) (history : List (Entry A)) → IsHeld facts door door' start last edits end
    → start.made ≤ entries_of start.number start.front → IsSettled history last → IsInHistory history start last edits × (end ≡ Err ForeignSeat → ⊥)
unfolding silent
held_in_history {A} facts door door' start last edits end history (inl (is, refused, same, none)) seen settled = (
  subst (λ (l : List (Edit A)). IsInHistory history start last l) (sym none) (talk_in_history start last _ _ _ _ (Ok tt) (silent start last same) history seen settled).0,
  λ e. cc (sym is ∙ e),
)
held_in_history {A} facts door door' start last edits end history (inr (input', output', ended, talk, all, is, left)) seen settled =
    let shown = talk_in_history start last _ _ _ _ ended talk history seen settled in (
      subst (λ (l : List (Edit A)). IsInHistory history start last l) (sym all) shown.0,
      λ e. not_foreign talk.seat last talk.rest _ talk.more input' (facts.held door) output' ended talk.ends shown.1 (sym is ∙ e),
    )
