-- Conversations of several seats with one journal.
use Rattle.std.proofs.Common.{◌≡◌, ℕ, zero, suc, ◌+◌, ◌≤◌, List, [], ◌∷◌, ◌++◌, length, take, Option, None, Result, Ok, Err, inl, inr, refl, sym, ap, subst, ◌∙◌, arith, append-nil, length-append}
use mathlib.Core.List.{IsPrefix}
use Rattle.tas_movie.specs.declared.edit.Edit.{Edit}
use Rattle.tas_published.specs.declared.entry.Entry.{Entry}
use Rattle.tas_published.specs.History.{entries_of}
use Rattle.tas_published.proofs.PrefixLemmas.{prefix_trans}
use Rattle.tas_desk.specs.Seats.{SeatContent, KeepsZone, IsSettled}
use Rattle.tas_desk.proofs.SeatLemmas.{entries_of-prefix}
use Rattle.tas_engines.specs.declared.fault.ReadFault.TheVariants.{Failed, TooLong, Memory as NoRoom}
use Rattle.tas_engines.specs.declared.fault.RunFault.TheVariants.{Write, Size, Text, NoFrame, Range, Halted, HaltedFrame, Script, Place, Long, Names as NoNames, NoPlace, NoEntry, Foreign, Memory}
use Rattle.tas_engines.specs.declared.fault.ToolFault.{ToolFault}
use Rattle.tas_engines.specs.declared.fault.ToolFault.TheVariants.{Read, Run, Seat}
use Rattle.tas_engines.specs.declared.fault.SeatFault.TheVariants.{NotOpened, Foreign as ForeignSeat}
use Rattle.tas_seat.specs.Conversations.{TalkingSeat, talking}
use Rattle.tas_seat.specs.Talk.{Exchange, AreExchanges, TalkEnds, IsTalk, IsCarriedOut, edits_of, answers_of}
use Rattle.tas_seat.specs.Histories.{IsInHistory, entries_of_seat}
use Rattle.tas_seat.specs.Outcomes.{IsMiscounted}
use Rattle.tas_seat.specs.Lines.{DoorFacts}
use Rattle.tas_seat.proofs.HistoryLemmas.{Leaves, Rested, by_length, exchange_leaves, leaves_more, leaves_same, leaves_seen, rested, talk_in_history}
use Rattle.tas_journaling.specs.declared.talking.TalkFault.{TalkFault}
use Rattle.tas_journaling.specs.declared.talking.TalkFault.TheVariants.{Tool, Journal}
use Rattle.tas_journaling.specs.declared.callers.CallFault.{CallFault}
use Rattle.tas_journaling.specs.declared.callers.CallFault.TheVariants as call
use Rattle.tas_journaling.specs.Noting.{NoteFacts, HasOwn, HasOwnIn, NotesEnd, shared_notes}
use Rattle.tas_journaling.specs.NoteLaws.{own_on, own_seen_on, own_then}
use Rattle.tas_journaling.specs.Talks.{WaysWith, AreShown, NotedEnds, IsTalkNotedBy}
use Rattle.tas_journaling.specs.Callers.{call_end, told_edits, IsSharedTalk, IsNotedHeld, WasNoted}

-- ---- what a conversation leaves

-- what lines leave of a seat that was shown more after each
pub shown_leave : {A : Type 0} (start last : TalkingSeat A) (xs : List (Exchange A)) → AreShown start xs last → Leaves start.seat last.seat (edits_of xs)
unfolding AreShown
shown_leave {A} start last [] is = leaves_same start.seat last.seat (ap (λ (s : TalkingSeat A). s.seat) is)
shown_leave {A} start last (x ∷ xs) (is, shown, keeps, rest) =
    leaves_more start.seat x.next.seat last.seat x.edits (edits_of xs) (exchange_leaves start x is)
    (leaves_more x.next.seat shown last.seat [] (edits_of xs) (leaves_seen x.next.seat shown keeps.seen) (shown_leave (talking shown x.next.draft) last xs rest))

-- an end without a journal: a journal's fault is read as one of memory
abbrev pub as_run : Result (Unit {0}) TalkFault → Result (Unit {0}) ToolFault
as_run (Ok u) = Ok u
as_run (Err (Tool fault)) = Err fault
as_run (Err (Journal fault)) = Err (Run Memory)

pub ends_as : {A : Type 0} (seat : TalkingSeat A) (last : SeatContent A) (rest told : List ℕ) (edits : List (Edit A)) (input output output' : Option (List ℕ)) (result : Result (Unit {0}) TalkFault) → NotedEnds seat last rest told edits input output output' result
    → TalkEnds seat last rest told edits input output output' (as_run result)
ends_as seat last rest told edits input output output' (Ok u) is = is
ends_as seat last rest told edits input output output' (Err (Tool fault)) is = is
ends_as seat last rest told edits input output output' (Err (Journal fault)) (answer, is, out) = (inr (answer, is), out)

-- what was made of the rest, or the end that never comes
noted_rested : {A J : Type 0} {notes : NoteFacts A J} (start last : SeatContent A) (old new : WaysWith J) (result : Result (Unit {0}) TalkFault) → (talk : IsTalkNotedBy notes start last old new result) → Rested talk.seat talk.left_at talk.more (as_run result)
noted_rested start last old new result talk =
    rested talk.seat talk.left_at talk.rest (answers_of talk.exchanges) talk.more new.input old.output new.output (as_run result)
    (ends_as talk.seat talk.left_at talk.rest (answers_of talk.exchanges) talk.more new.input old.output new.output result talk.ends)

-- ---- in the history

silent : {A : Type 0} (seat : SeatContent A) → IsTalk seat seat None None None None (Ok tt)
unfolding AreExchanges
silent seat = record {
  exchanges = [];
  seat = talking seat None;
  rest = [];
  more = [];
  answered = refl;
  left = tt;
  ends = (record { same = refl; none = refl }, inr (tt, tt, tt));
}

-- a settled seat that has seen its edits has seen all of them, and the history has no others of it
settled_own : {A : Type 0} (seat : SeatContent A) (history : List (Entry A)) → HasOwn seat → IsSettled history seat → IsInHistory history seat seat []
unfolding silent
settled_own seat history own settled = (talk_in_history seat seat None None None None (Ok tt) (silent seat) history own settled).0

miscounted_never : {A : Type 0} (mid last left_at : SeatContent A) (history : List (Entry A)) → HasOwn mid → IsMiscounted mid left_at → KeepsZone left_at last → IsSettled history last → ⊥
miscounted_never {A} mid last left_at history own strange shown settled =
    let left_own : HasOwn left_at = own_seen_on mid left_at strange.seen.number strange.seen.made strange.seen.begins own in
    let left_settled : IsSettled history left_at = record {
      begins = prefix_trans left_at.front last.front history shown.seen.begins settled.begins;
      exact = ap (λ (n : ℕ). entries_of n history) (sym shown.seen.number) ∙ settled.exact ∙ shown.seen.made;
    } in
    let all = settled_own left_at history left_own left_settled in
    strange.other (sym (by_length left_at.number left_at.front) ∙ all.before)

left_in_history : {A : Type 0} (start last : SeatContent A) (edits : List (Edit A)) (history : List (Entry A)) → Leaves start last edits → HasOwn start → IsSettled history last → IsInHistory history start last edits
left_in_history {A} start last edits history left own settled =
    let all = settled_own last history (own_then start last edits left own) settled in
    let was = by_length start.number start.front in
    let named : (h : List (Entry A)) → entries_of_seat start.number h ≡ entries_of_seat last.number h = λ h. ap (λ (n : ℕ). entries_of_seat n h) (sym left.number) in
    let now_long : length (entries_of_seat start.number last.front) ≡ last.made = ap (λ (l : List (Entry A)). length l) (named last.front) ∙ all.before in
    record {
      begins = settled.begins;
      number = left.number;
      own = named history ∙ all.own ∙ append-nil (entries_of_seat last.number last.front) ∙ sym (named last.front) ∙ left.own (omega (arith, now_long, left.made, own, was));
      before = omega (arith, now_long, left.made, own, was, left.grows);
    }

-- a conversation's seat is settled: its edits are just the seat's in the history, in order
pub noted_in_history : {A J : Type 0} {notes : NoteFacts A J} (start last : SeatContent A) (old new : WaysWith J) (result : Result (Unit {0}) TalkFault) (talk : IsTalkNotedBy notes start last old new result) (history : List (Entry A)) → HasOwn start → IsSettled history last
    → IsInHistory history start last (edits_of talk.exchanges ++ talk.more) × (as_run result ≡ Err (Run Foreign) → ⊥)
noted_in_history {A} {J} {notes} start last old new result talk history own settled = go (noted_rested start last old new result talk)
  where
    first : Leaves start talk.seat.seat (edits_of talk.exchanges)
    first = shown_leave (talking start None) talk.seat talk.exchanges talk.answered

    go : Rested talk.seat talk.left_at talk.more (as_run result) → IsInHistory history start last (edits_of talk.exchanges ++ talk.more) × (as_run result ≡ Err (Run Foreign) → ⊥)
    go (inl strange) = absurd (miscounted_never talk.seat.seat last talk.left_at history (own_then start talk.seat.seat (edits_of talk.exchanges) first own) strange talk.shown settled)
    go (inr (left, other)) =
        let mid : Leaves talk.seat.seat last (talk.more ++ []) = leaves_more talk.seat.seat talk.left_at last talk.more [] left (leaves_seen talk.left_at last talk.shown.seen) in
        let more : Leaves talk.seat.seat last talk.more = subst (λ (l : List (Edit A)). Leaves talk.seat.seat last l) (append-nil talk.more) mid in
        let all : Leaves start last (edits_of talk.exchanges ++ talk.more) = leaves_more start talk.seat.seat last (edits_of talk.exchanges) talk.more first more in
        (left_in_history start last (edits_of talk.exchanges ++ talk.more) history all own settled, other)

-- an end that isn't of other edits isn't reported as one
not_foreign : {A : Type 0} (seat : TalkingSeat A) (last : SeatContent A) (rest told : List ℕ) (more : List (Edit A)) (input output output' : Option (List ℕ)) (ended : Result (Unit {0}) TalkFault) → NotedEnds seat last rest told more input output output' ended
    → (as_run ended ≡ Err (Run Foreign) → ⊥) → call_end ended ≡ Err (call.Seat ForeignSeat) → ⊥
not_foreign seat last rest told more input output output' (Ok u) ends other e = cc e
not_foreign seat last rest told more input output output' (Err (Journal fault)) ends other e = cc e
not_foreign seat last rest told more input output output' (Err (Tool (Read Failed))) ends other e = cc e
not_foreign seat last rest told more input output output' (Err (Tool (Read TooLong))) ends other e = ends
not_foreign seat last rest told more input output output' (Err (Tool (Read NoRoom))) ends other e = ends
not_foreign seat last rest told more input output output' (Err (Tool (Run (Write written)))) ends other e = cc e
not_foreign seat last rest told more input output output' (Err (Tool (Run Memory))) ends other e = cc e
not_foreign seat last rest told more input output output' (Err (Tool (Run NoEntry))) ends other e = cc e
not_foreign seat last rest told more input output output' (Err (Tool (Run Foreign))) ends other e = other refl
not_foreign seat last rest told more input output output' (Err (Tool (Run (Size n)))) ends other e = ends
not_foreign seat last rest told more input output output' (Err (Tool (Run (Text error)))) ends other e = ends
not_foreign seat last rest told more input output output' (Err (Tool (Run (NoFrame frame len)))) ends other e = ends
not_foreign seat last rest told more input output output' (Err (Tool (Run (Range from to len)))) ends other e = ends
not_foreign seat last rest told more input output output' (Err (Tool (Run (NoNames row kind)))) ends other e = ends
not_foreign seat last rest told more input output output' (Err (Tool (Run (Halted at opcode)))) ends other e = ends
not_foreign seat last rest told more input output output' (Err (Tool (Run (HaltedFrame frame at opcode)))) ends other e = ends
not_foreign seat last rest told more input output output' (Err (Tool (Run (Script number)))) ends other e = ends
not_foreign seat last rest told more input output output' (Err (Tool (Run (Place number)))) ends other e = ends
not_foreign seat last rest told more input output output' (Err (Tool (Run (Long number)))) ends other e = ends
not_foreign seat last rest told more input output output' (Err (Tool (Run NoPlace))) ends other e = ends
not_foreign seat last rest told more input output output' (Err (Tool (Seat number fault))) ends other e = ends

-- a seat's conversation with a shared journal, in the history of which the closed desk says that the seat's part is just what it made
pub call_in_history : {A D : Type 0} (facts : DoorFacts D) (door door' : D) (start last : SeatContent A) (edits answered : List (Edit A)) (end : Result (Unit {0}) CallFault) (history : List (Entry A)) → IsNotedHeld facts door door' start last edits answered end
    → HasOwn start → IsSettled history last → IsInHistory history start last edits × (end ≡ Err (call.Seat ForeignSeat) → ⊥)
call_in_history {A} facts door door' start last edits answered end history (inl (is, refused, same, none, no_answer)) own settled = (
  subst (λ (l : List (Edit A)). IsInHistory history start last l) (sym none) (left_in_history start last [] history (leaves_same start last same) own settled),
  λ e. cc (sym is ∙ e),
)
call_in_history {A} facts door door' start last edits answered end history (inr (input', output', ended, shared, is, left)) own settled =
    let talk = shared.talk in
    let shown = noted_in_history start last _ _ ended talk history own settled in (
      subst (λ (l : List (Edit A)). IsInHistory history start last l) (sym shared.all) shown.0,
      λ e. not_foreign talk.seat talk.left_at talk.rest _ talk.more input' (facts.held door) output' ended talk.ends shown.1 (sym is ∙ e),
    )

-- a conversation leaves its seat the number that it had
pub call_seen : {A D : Type 0} (facts : DoorFacts D) (door door' : D) (start last : SeatContent A) (edits answered : List (Edit A)) (end : Result (Unit {0}) CallFault) → IsNotedHeld facts door door' start last edits answered end
    → (last.number ≡ start.number) × IsPrefix start.front last.front
call_seen {A} facts door door' start last edits answered end (inl (is, refused, same, none, no_answer)) = let left = leaves_same start last same in (left.number, left.seen)
call_seen {A} facts door door' start last edits answered end (inr (input', output', ended, shared, is, left)) = go (noted_rested start last _ _ ended talk)
  where
    talk : IsTalkNotedBy shared_notes start last (record { input = facts.given door; output = facts.held door; journal = shared.told }) (record { input = input'; output = output'; journal = shared.told' }) ended
    talk = shared.talk

    first : Leaves start talk.seat.seat (edits_of talk.exchanges)
    first = shown_leave (talking start None) talk.seat talk.exchanges talk.answered

    on : (talk.left_at.number ≡ talk.seat.seat.number) → IsPrefix talk.seat.seat.front talk.left_at.front → (last.number ≡ start.number) × IsPrefix start.front last.front
    on number begins = (
      talk.shown.seen.number ∙ number ∙ first.number,
      prefix_trans start.front talk.seat.seat.front last.front first.seen (prefix_trans talk.seat.seat.front talk.left_at.front last.front begins talk.shown.seen.begins),
    )

    go : Rested talk.seat talk.left_at talk.more (as_run ended) → (last.number ≡ start.number) × IsPrefix start.front last.front
    go (inl strange) = on strange.seen.number strange.seen.begins
    go (inr (left, other)) = on left.number left.seen

-- ---- what was noted

-- the first entries of a history begin more of them
pub take_more : {X : Type 0} (a b : ℕ) (xs : List X) → a ≤ b → IsPrefix (take a xs) (take b xs)
take_more zero b xs le = (take b xs, refl)
take_more (suc a) zero xs le = absurd (omega (arith, le))
take_more (suc a) (suc b) [] le = ([], refl)
take_more {X} (suc a) (suc b) (x ∷ xs) le = let rest = take_more a b xs (omega (arith, le)) in (rest.0, ap (λ (l : List X). x ∷ l) rest.1)

pub own_more : {A : Type 0} (seat : SeatContent A) (few many : ℕ) → few ≤ many → HasOwnIn seat few → HasOwnIn seat many
own_more seat few many le own = omega (arith, own, entries_of-prefix seat.number (take few seat.front) (take many seat.front) (take_more few many seat.front le))

carried_made : {A : Type 0} (seat : TalkingSeat A) (last : SeatContent A) (rest answer : List ℕ) (edits : List (Edit A)) → IsCarriedOut seat last rest edits answer → last.made ≡ seat.seat.made + length edits
carried_made {A} seat last rest answer edits is =
    ap (λ (s : SeatContent A). s.made) is.last_is ∙ (exchange_leaves seat is.exchange is.is).made ∙ ap (λ (l : List (Edit A)). seat.seat.made + length l) (sym is.edits_are)

rested_more : {A : Type 0} (seat : TalkingSeat A) (last : SeatContent A) (edits : List (Edit A)) (result : Result (Unit {0}) ToolFault) → Rested seat last edits result → (last.number ≡ seat.seat.number) × (seat.seat.made ≤ last.made) × IsPrefix seat.seat.front last.front
rested_more seat last edits result (inl strange) = (strange.seen.number, omega (arith, strange.seen.made), strange.seen.begins)
rested_more seat last edits result (inr (left, other)) = (left.number, omega (arith, left.made), left.seen)

-- the edits whose answers went out are among the entries of which the caller was told
pub answered_noted : {A : Type 0} (first : ℕ) (start last : SeatContent A) (given given' held held' : Option (List ℕ)) (edits answered : List (Edit A)) (ended : Result (Unit {0}) TalkFault) (shared : IsSharedTalk start last given given' held held' edits answered ended)
    → first ≤ shared.told → HasOwnIn start first → start.made + length answered ≤ entries_of last.number (take shared.told' last.front)
answered_noted {A} first start last given given' held held' edits answered ended shared le own = subst (λ (l : List (Edit A)). start.made + length l ≤ entries_of last.number (take told last.front)) (sym shared.answered_are) (go ended talk.ends (talk.noted None covered))
  where
    told : ℕ
    told = shared.told'

    talk : IsTalkNotedBy shared_notes start last (record { input = given; output = held; journal = shared.told }) (record { input = given'; output = held'; journal = shared.told' }) ended
    talk = shared.talk

    covered : HasOwnIn start shared.told
    covered = own_more start first shared.told le own

    mid : SeatContent A
    mid = talk.seat.seat

    made : List (Edit A)
    made = edits_of talk.exchanges

    left : Leaves start mid made
    left = shown_leave (talking start None) talk.seat talk.exchanges talk.answered

    on : (talk.left_at.number ≡ mid.number) × (mid.made ≤ talk.left_at.made) × IsPrefix mid.front talk.left_at.front
    on = rested_more talk.seat talk.left_at talk.more (as_run ended) (noted_rested start last _ _ ended talk)

    none : length (made ++ []) ≡ length made
    none = ap (λ (l : List (Edit A)). length l) (append-nil made)

    number : last.number ≡ mid.number
    number = talk.shown.seen.number ∙ on.0

    -- what was noted after the last answer
    upto : HasOwnIn mid told → start.made + length (made ++ []) ≤ entries_of last.number (take told last.front)
    upto is =
        let more = own_on mid.number told mid.front last.front (prefix_trans mid.front talk.left_at.front last.front on.2 talk.shown.seen.begins) in
        let named = ap (λ (n : ℕ). entries_of n (take told last.front)) number in
        omega (arith, is, more, named, none, left.made)

    -- and with an answer that was cut off
    whole : (more : List (Edit A)) → mid.made + length more ≤ talk.left_at.made → HasOwnIn last told → start.made + length (made ++ more) ≤ entries_of last.number (take told last.front)
    whole more few is = omega (arith, is, few, length-append made more, left.made, talk.shown.seen.made)

    go : (end : Result (Unit {0}) TalkFault) → NotedEnds talk.seat talk.left_at talk.rest (answers_of talk.exchanges) talk.more given' held held' end → NotesEnd shared_notes None talk.seat.seat last told end
        → start.made + length (made ++ told_edits talk.more end) ≤ entries_of last.number (take told last.front)
    go (Ok u) ends is = whole [] (omega (arith, on.1)) is
    go (Err (Journal fault)) ends is = upto is
    go (Err (Tool (Read fault))) ends is = upto is
    go (Err (Tool (Seat number fault))) ends is = upto is
    go (Err (Tool (Run (Write written)))) (answer, inl carried, cut) is = whole talk.more (omega (arith, carried_made talk.seat talk.left_at talk.rest answer talk.more carried)) is
    go (Err (Tool (Run (Write written)))) (answer, inr rest, cut) is = whole talk.more (omega (arith, ap (λ (l : List (Edit A)). length l) rest.0.none, on.1)) is
    go (Err (Tool (Run (Size n)))) ends is = upto is
    go (Err (Tool (Run (Text error)))) ends is = upto is
    go (Err (Tool (Run (NoFrame frame len)))) ends is = upto is
    go (Err (Tool (Run (Range from to len)))) ends is = upto is
    go (Err (Tool (Run (NoNames row kind)))) ends is = upto is
    go (Err (Tool (Run (Halted at opcode)))) ends is = upto is
    go (Err (Tool (Run (HaltedFrame frame at opcode)))) ends is = upto is
    go (Err (Tool (Run (Script number)))) ends is = upto is
    go (Err (Tool (Run (Place number)))) ends is = upto is
    go (Err (Tool (Run (Long number)))) ends is = upto is
    go (Err (Tool (Run NoPlace))) ends is = upto is
    go (Err (Tool (Run NoEntry))) ends is = upto is
    go (Err (Tool (Run Foreign))) ends is = upto is
    go (Err (Tool (Run Memory))) ends is = upto is

-- ---- a visit

pub held_noted : {A D : Type 0} (facts : DoorFacts D) (first : ℕ) (door door' : D) (start last : SeatContent A) (input input' output output' : Option (List ℕ)) (told told' : ℕ) (ended : Result (Unit {0}) TalkFault) (end : Result (Unit {0}) CallFault) → input ≡ facts.given door
    → output ≡ facts.held door → first ≤ told → IsTalkNotedBy shared_notes start last (record { input = input; output = output; journal = told }) (record { input = input'; output = output'; journal = told' }) ended → end ≡ call_end ended → facts.left door' input' output'
    → WasNoted facts first door door' start last told' end
held_noted {A} facts first door door' start last input input' output output' told told' ended end i o le talk is left = record {
  edits = edits_of talk'.exchanges ++ talk'.more;
  answered = edits_of talk'.exchanges ++ told_edits talk'.more ended;
  held = inr (input', output', ended, shared, is, left);
  noted = inr (λ own. answered_noted first start last (facts.given door) input' (facts.held door) output' _ _ ended shared le own);
}
  where
    talk' : IsTalkNotedBy shared_notes start last (record { input = facts.given door; output = facts.held door; journal = told }) (record { input = input'; output = output'; journal = told' }) ended
    talk' =
        subst (λ (x : Option (List ℕ)). IsTalkNotedBy shared_notes start last (record { input = facts.given door; output = x; journal = told }) (record { input = input'; output = output'; journal = told' }) ended) o
        (subst (λ (x : Option (List ℕ)). IsTalkNotedBy shared_notes start last (record { input = x; output = output; journal = told }) (record { input = input'; output = output'; journal = told' }) ended) i talk)

    shared : IsSharedTalk start last (facts.given door) input' (facts.held door) output' (edits_of talk'.exchanges ++ talk'.more) (edits_of talk'.exchanges ++ told_edits talk'.more ended) ended
    shared = record { told = told; told' = told'; talk = talk'; all = refl; answered_are = refl }

-- a door that didn't open
pub shut_noted : {A D : Type 0} (facts : DoorFacts D) (first : ℕ) (door door' : D) (seat : SeatContent A) (told : ℕ) → facts.refused door' → WasNoted facts first door door' seat seat told (Err (call.Seat NotOpened))
shut_noted facts first door door' seat told refused = record { edits = []; answered = []; held = inl (refl, refused, refl, refl, refl); noted = inl refl }
