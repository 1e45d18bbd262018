-- What the history that a desk leaves has of a seat.
use Rattle.std.proofs.Common.{◌≡◌, ℕ, suc, ◌+◌, ◌≤◌, List, [], ◌∷◌, ◌++◌, length, Option, Some, None, Result, Ok, Err, ◌⊎◌, inl, inr, refl, sym, ap, subst, ◌∙◌, arith, append_assoc, append-nil, length-append}
use Rattle.std.specs.Prelude.{◌==◌}
use Rattle.std.proofs.lemmas.Bool.{eq-eqb}
use Rattle.std.proofs.lemmas.List.Elements.{filter-append}
use Rattle.std.proofs.lemmas.List.Sums.{length-filter}
use mathlib.Core.List.{IsPrefix}
use Rattle.tas_movie.specs.declared.edit.Edit.{Edit}
use Rattle.tas_published.specs.declared.entry.Entry.{Entry}
use Rattle.tas_published.proofs.PrefixLemmas.{prefix_trans}
use Rattle.tas_published.specs.History.{entries_of}
use Rattle.tas_desk.specs.Seats.{SeatContent, entry_of, HasSeen, IsSettled}
use Rattle.tas_engines.specs.declared.fault.ToolFault.{ToolFault}
use Rattle.tas_engines.specs.declared.fault.ToolFault.TheVariants.{Read, Run, Seat}
use Rattle.tas_engines.specs.declared.fault.ReadFault.TheVariants.{TooLong, Failed, Memory as NoRoom}
use Rattle.tas_engines.specs.declared.fault.RunFault.TheVariants.{Write, Size, Text, NoFrame as OffMovie, Range as OffRange, Halted as Stopped, HaltedFrame as StoppedFrame, Script, Place, Long, Names as NoNames, NoPlace, NoEntry, Foreign, Memory}
use Rattle.tas_language.specs.declared.request.Request.{Request}
use Rattle.tas_language.specs.declared.request.Request.TheVariants.{Do, Retouch, Picture, Pictures, Ram, Digest, Lag, Inputs, Movie, States, Share, History, Version, Begin, Commit, Drop, Quit}
use Rattle.tas_seat.specs.Requests.{StripAnswer, AreShown}
use Rattle.tas_seat.specs.Seats.{entries_from, IsSeatAfter, IsPictureAt, IsAnsweredAt, IsRequestAnswered}
use Rattle.tas_seat.specs.declared.conversation.Subject.{Subject}
use Rattle.tas_seat.specs.declared.conversation.Subject.TheVariants as about
use Rattle.tas_seat.specs.Subjects.{subject_of}
use Rattle.tas_seat.specs.Conversations.{TalkingSeat, talking, LeavesSeat, IsAnsweredOutsideOf, IsAnsweredInsideOf, IsTalkAnswered, IsLineAnswered}
use Rattle.tas_seat.specs.Drafts.{DraftContent}
use Rattle.tas_seat.specs.Outcomes.{IsMiscounted}
use Rattle.tas_seat.specs.Talk.{Exchange, IsExchange, AreExchanges, IsLeft, HasDrawn, HasLooked, IsCarriedOut, TalkEnds, IsTalk, edits_of, all_edits}
use Rattle.tas_seat.specs.Histories.{entries_of_seat, IsInHistory}

pub prefix_length : {X : Type 0} (a b : List X) (p : IsPrefix a b) → length b ≡ length a + length p.0
prefix_length {X} a b p = ap (λ (l : List X). length l) (sym p.1) ∙ length-append a p.0

-- ---- a seat's entries

by-append : {A : Type 0} (n : ℕ) (xs ys : List (Entry A)) → entries_of_seat n (xs ++ ys) ≡ entries_of_seat n xs ++ entries_of_seat n ys
by-append {A} n xs ys = filter-append (λ (e : Entry A). e.seat == n) xs ys

-- how many they are
pub by_length : {A : Type 0} (n : ℕ) (xs : List (Entry A)) → length (entries_of_seat n xs) ≡ entries_of n xs
by_length {A} n xs = length-filter (λ (e : Entry A). e.seat == n) xs

by_length-append : {A : Type 0} (n : ℕ) (xs ys : List (Entry A)) → length (entries_of_seat n (xs ++ ys)) ≡ length (entries_of_seat n xs) + length (entries_of_seat n ys)
by_length-append {A} n xs ys = ap (λ (l : List (Entry A)). length l) (by-append n xs ys) ∙ length-append (entries_of_seat n xs) (entries_of_seat n ys)

by_own : {A : Type 0} (n m : ℕ) (edits : List (Edit A)) → entries_of_seat n (entries_from n m edits) ≡ entries_from n m edits
by_own {A} n m [] = refl
by_own {A} n m (edit ∷ edits) = rw (eq-eqb n n refl) (ap (λ (l : List (Entry A)). entry_of n m edit ∷ l) (by_own n (m + 1) edits))

pub from_length : {A : Type 0} (n m : ℕ) (edits : List (Edit A)) → length (entries_from n m edits) ≡ length edits
from_length n m [] = refl
from_length n m (edit ∷ edits) = ap (λ (k : ℕ). suc k) (from_length n (m + 1) edits)

from-append : {A : Type 0} (n m : ℕ) (xs ys : List (Edit A)) → entries_from n m (xs ++ ys) ≡ entries_from n m xs ++ entries_from n (m + length xs) ys
from-append {A} n m [] ys = ap (λ (k : ℕ). entries_from n k ys) (omega arith)
from-append {A} n m (x ∷ xs) ys =
    ap (λ (l : List (Entry A)). entry_of n m x ∷ l) (from-append n (m + 1) xs ys ∙ ap (λ (k : ℕ). entries_from n (m + 1) xs ++ entries_from n k ys) (omega arith))

none_of : {X : Type 0} (xs : List X) → length xs ≡ 0 → xs ≡ []
none_of [] is = refl
none_of (x ∷ xs) is = absurd (omega (arith, is))

-- what stands after a beginning of a history
pub by_rest : {A : Type 0} (n : ℕ) (xs ys : List (Entry A)) (p : IsPrefix xs ys) → length (entries_of_seat n ys) ≡ length (entries_of_seat n xs) + length (entries_of_seat n p.0)
by_rest {A} n xs ys p = ap (λ (l : List (Entry A)). length (entries_of_seat n l)) (sym p.1) ∙ by_length-append n xs p.0

-- a beginning of a history that has as many of them has the same
prefix_equal : {A : Type 0} (n : ℕ) (xs ys : List (Entry A)) → IsPrefix xs ys → length (entries_of_seat n ys) ≤ length (entries_of_seat n xs) → entries_of_seat n ys ≡ entries_of_seat n xs
prefix_equal {A} n xs ys p few =
    let none : entries_of_seat n p.0 ≡ [] = none_of (entries_of_seat n p.0) (omega (arith, few, by_rest n xs ys p)) in
    ap (λ (l : List (Entry A)). entries_of_seat n l) (sym p.1) ∙ by-append n xs p.0 ∙ ap (λ (l : List (Entry A)). entries_of_seat n xs ++ l) none ∙ append-nil (entries_of_seat n xs)

-- ---- what lines leave of a seat

-- a seat made edits and has seen more: there are at least this many entries more than before, and of its own, too; where these are just this many, they
-- are the edits
pub record Leaves {A : Type 0} (start last : SeatContent A) (edits : List (Edit A)) : Type 0 where
  pub number : last.number ≡ start.number
  pub made : last.made ≡ start.made + length edits
  pub seen : IsPrefix start.front last.front
  pub longer : length start.front + length edits ≤ length last.front
  pub grows : length (entries_of_seat start.number start.front) + length edits ≤ length (entries_of_seat start.number last.front)
  pub own : length (entries_of_seat start.number last.front) ≤ length (entries_of_seat start.number start.front) + length edits
      → entries_of_seat start.number last.front ≡ entries_of_seat start.number start.front ++ entries_from start.number start.made edits

pub leaves_seen : {A : Type 0} (start last : SeatContent A) → HasSeen start last → Leaves start last []
leaves_seen {A} start last seen =
    let more = by_rest start.number start.front last.front seen.begins in
    record {
      number = seen.number;
      made = omega (arith, seen.made);
      seen = seen.begins;
      longer = omega (arith, prefix_length start.front last.front seen.begins);
      grows = omega (arith, more);
      own = λ few. prefix_equal start.number start.front last.front seen.begins (omega (arith, few)) ∙ sym (append-nil (entries_of_seat start.number start.front));
    }

pub leaves_same : {A : Type 0} (start last : SeatContent A) → last ≡ start → Leaves start last []
leaves_same {A} start last is = leaves_seen start last (record {
  number = ap (λ (s : SeatContent A). s.number) is;
  made = ap (λ (s : SeatContent A). s.made) is;
  begins = ([], append-nil start.front ∙ sym (ap (λ (s : SeatContent A). s.front) is));
})

-- a seat's entries after it was answered
after_by : {A : Type 0} (seat next : SeatContent A) (at : List (Entry A)) (edits : List (Edit A)) → IsSeatAfter seat at edits next → entries_of_seat seat.number next.front ≡ entries_of_seat seat.number at ++ entries_from seat.number seat.made edits
after_by {A} seat next at edits is =
    ap (λ (l : List (Entry A)). entries_of_seat seat.number l) is.front ∙ by-append seat.number at (entries_from seat.number seat.made edits) ∙ ap (λ (l : List (Entry A)). entries_of_seat seat.number at ++ l) (by_own seat.number seat.made edits)

after_length : {A : Type 0} (seat next : SeatContent A) (at : List (Entry A)) (edits : List (Edit A)) → IsSeatAfter seat at edits next → length (entries_of_seat seat.number next.front) ≡ length (entries_of_seat seat.number at) + length edits
after_length {A} seat next at edits is =
    ap (λ (l : List (Entry A)). length l) (after_by seat next at edits is) ∙ length-append (entries_of_seat seat.number at) (entries_from seat.number seat.made edits)
    ∙ ap (λ (k : ℕ). length (entries_of_seat seat.number at) + k) (from_length seat.number seat.made edits)

pub front_length : {A : Type 0} (seat next : SeatContent A) (at : List (Entry A)) (edits : List (Edit A)) → IsSeatAfter seat at edits next → length next.front ≡ length at + length edits
front_length {A} seat next at edits is =
    ap (λ (l : List (Entry A)). length l) is.front ∙ length-append at (entries_from seat.number seat.made edits) ∙ ap (λ (k : ℕ). length at + k) (from_length seat.number seat.made edits)

pub leaves_after : {A : Type 0} (seat next : SeatContent A) (at : List (Entry A)) (edits : List (Edit A)) → IsSeatAfter seat at edits next → Leaves seat next edits
leaves_after {A} seat next at edits is =
    let long = after_length seat next at edits is in
    let more = by_rest seat.number seat.front at is.begins in
    record {
      number = is.number;
      made = is.made;
      seen = prefix_trans seat.front at next.front is.begins (entries_from seat.number seat.made edits, sym is.front);
      longer = omega (arith, front_length seat next at edits is, prefix_length seat.front at is.begins);
      grows = omega (arith, long, more);
      own = λ few. after_by seat next at edits is
          ∙ ap (λ (l : List (Entry A)). l ++ entries_from seat.number seat.made edits) (prefix_equal seat.number seat.front at is.begins (omega (arith, few, long)));
    }

pub leaves_more : {A : Type 0} (start mid last : SeatContent A) (edits others : List (Edit A)) → Leaves start mid edits → Leaves mid last others → Leaves start last (edits ++ others)
leaves_more {A} start mid last edits others first rest =
    let n : ℕ = start.number in
    let long : length (edits ++ others) ≡ length edits + length others = length-append edits others in
    let named : (h : List (Entry A)) → entries_of_seat mid.number h ≡ entries_of_seat n h = λ (h : List (Entry A)). ap (λ (k : ℕ). entries_of_seat k h) first.number in
    let mid_long : length (entries_of_seat mid.number mid.front) ≡ length (entries_of_seat n mid.front) = ap (λ (l : List (Entry A)). length l) (named mid.front) in
    let last_long : length (entries_of_seat mid.number last.front) ≡ length (entries_of_seat n last.front) = ap (λ (l : List (Entry A)). length l) (named last.front) in
    record {
      number = rest.number ∙ first.number;
      made = omega (arith, rest.made, first.made, long);
      seen = prefix_trans start.front mid.front last.front first.seen rest.seen;
      longer = omega (arith, first.longer, rest.longer, long);
      grows = omega (arith, first.grows, rest.grows, mid_long, last_long, long);
      own = λ (few : length (entries_of_seat n last.front) ≤ length (entries_of_seat n start.front) + length (edits ++ others)).
          let rest_own = rest.own (omega (arith, few, first.grows, mid_long, last_long, long)) in
          let first_own = first.own (omega (arith, few, rest.grows, mid_long, last_long, long)) in
          sym (named last.front) ∙ rest_own
          ∙ ap (λ (l : List (Entry A)). l ++ entries_from mid.number mid.made others) (named mid.front ∙ first_own)
          ∙ ap (λ (k : ℕ). (entries_of_seat n start.front ++ entries_from n start.made edits) ++ entries_from k mid.made others) first.number
          ∙ ap (λ (k : ℕ). (entries_of_seat n start.front ++ entries_from n start.made edits) ++ entries_from n k others) first.made
          ∙ append_assoc (entries_of_seat n start.front) (entries_from n start.made edits) (entries_from n (start.made + length edits) others)
          ∙ ap (λ (l : List (Entry A)). entries_of_seat n start.front ++ l) (sym (from-append n start.made edits others));
    }

-- ---- one line

leaves_none : {A : Type 0} (start last : SeatContent A) (edits : List (Edit A)) → edits ≡ [] → Leaves start last [] → Leaves start last edits
leaves_none {A} start last edits none = subst (λ (l : List (Edit A)). Leaves start last l) (sym none)

pub strip_leaves : {A : Type 0} (start last : SeatContent A) (from : ℕ) (strip : List (StripAnswer (SeatContent A))) → AreShown (IsPictureAt {A = A}) start from strip last → Leaves start last []
unfolding AreShown
strip_leaves start last from [] is = leaves_same start last is
strip_leaves start last from (shown ∷ strip) is =
    leaves_more start shown.next last [] [] (leaves_after start shown.next is.0.at [] is.0.seat) (strip_leaves shown.next last (from + 1) strip is.1)

answered_leaves : (A : Type 0) (before now : SeatContent A) (request : Request) (answer : List ℕ) (edits : List (Edit A)) → IsAnsweredAt A before now request answer edits → Leaves before now edits
answered_leaves A before now request answer edits is = leaves_after before now is.at edits is.seat

request_leaves : (A : Type 0) (before now : SeatContent A) (request : Request) (answer : List ℕ) (edits : List (Edit A)) → IsRequestAnswered A before now request answer edits → Leaves before now edits
request_leaves A before now (Pictures from to) answer edits (none, (strip, long, are, told)) = leaves_none before now edits none (strip_leaves before now from strip are)
request_leaves A before now (History from) answer edits (none, is) = leaves_none before now edits none (leaves_after before now now.front [] is.seat)
request_leaves A before now (Do command) answer edits is = answered_leaves A before now (Do command) answer edits is
request_leaves A before now (Retouch retouch) answer edits is = answered_leaves A before now (Retouch retouch) answer edits is
request_leaves A before now (Picture k) answer edits is = answered_leaves A before now (Picture k) answer edits is
request_leaves A before now (Ram k) answer edits is = answered_leaves A before now (Ram k) answer edits is
request_leaves A before now (Digest k) answer edits is = answered_leaves A before now (Digest k) answer edits is
request_leaves A before now (Lag a b) answer edits is = answered_leaves A before now (Lag a b) answer edits is
request_leaves A before now (Inputs a b) answer edits is = answered_leaves A before now (Inputs a b) answer edits is
request_leaves A before now Movie answer edits is = answered_leaves A before now Movie answer edits is
request_leaves A before now States answer edits is = answered_leaves A before now States answer edits is
request_leaves A before now Share answer edits is = answered_leaves A before now Share answer edits is
request_leaves A before now Version answer edits is = answered_leaves A before now Version answer edits is
request_leaves A before now Begin answer edits is = answered_leaves A before now Begin answer edits is
request_leaves A before now Commit answer edits is = answered_leaves A before now Commit answer edits is
request_leaves A before now Drop answer edits is = answered_leaves A before now Drop answer edits is
request_leaves A before now Quit answer edits is = answered_leaves A before now Quit answer edits is

-- a line about the draft leaves the seat
seat_left : {A : Type 0} (before : SeatContent A) (now : TalkingSeat A) (edits : List (Edit A)) → LeavesSeat before now edits → Leaves before now.seat edits
seat_left before now edits is = leaves_none before now.seat edits is.none (leaves_same before now.seat is.same)

outside_leaves : (subject : Subject) (A : Type 0) (before : SeatContent A) (now : TalkingSeat A) (request : Request) (answer : List ℕ) (edits : List (Edit A)) → IsAnsweredOutsideOf subject A before now request answer edits → Leaves before now.seat edits
outside_leaves about.Begin A before now request answer edits is = leaves_none before now.seat edits is.1 (leaves_after before now.seat now.seat.front [] is.0.seat)
outside_leaves about.Commit A before now request answer edits is = seat_left before now edits is.2
outside_leaves about.Drop A before now request answer edits is = seat_left before now edits is.2
outside_leaves about.Desk A before now request answer edits is = request_leaves A before now.seat request answer edits is.0
outside_leaves about.Movie A before now request answer edits is = request_leaves A before now.seat request answer edits is.0
outside_leaves about.End A before now request answer edits is = absurd is

inside_leaves : (subject : Subject) (A : Type 0) (before : SeatContent A) (draft : DraftContent) (now : TalkingSeat A) (request : Request) (answer : List ℕ) (edits : List (Edit A)) → IsAnsweredInsideOf subject A before draft now request answer edits
    → Leaves before now.seat edits
inside_leaves about.Begin A before draft now request answer edits is = seat_left before now edits is.2
inside_leaves about.Commit A before draft now request answer edits is = leaves_after before now.seat is.at edits is.seat
inside_leaves about.Drop A before draft now request answer edits is = seat_left before now edits is.2
inside_leaves about.Desk A before draft now request answer edits is = request_leaves A before now.seat request answer edits is.0
inside_leaves about.Movie A before draft now request answer edits is = seat_left before now edits is.4
inside_leaves about.End A before draft now request answer edits is = absurd is

talk_leaves : (A : Type 0) (before : SeatContent A) (draft : Option DraftContent) (now : TalkingSeat A) (request : Request) (answer : List ℕ) (edits : List (Edit A)) → IsTalkAnswered A before draft now request answer edits → Leaves before now.seat edits
talk_leaves A before None now request answer edits is = outside_leaves (subject_of request) A before now request answer edits is
talk_leaves A before (Some draft) now request answer edits is = inside_leaves (subject_of request) A before draft now request answer edits is

pub line_leaves : (A : Type 0) (before now : TalkingSeat A) (said : List ℕ) (heard : Option Request) (answer : List ℕ) (edits : List (Edit A)) → IsLineAnswered A before now said heard answer edits → Leaves before.seat now.seat edits
line_leaves A before now said (Some request) answer edits is = talk_leaves A before.seat before.draft now request answer edits is
line_leaves A before now said None answer edits (told, none, same) = leaves_none before.seat now.seat edits none (leaves_same before.seat now.seat (ap (λ (s : TalkingSeat A). s.seat) same))

-- ---- all lines

pub exchange_leaves : {A : Type 0} (seat : TalkingSeat A) (x : Exchange A) → IsExchange seat x → Leaves seat.seat x.next.seat x.edits
exchange_leaves {A} seat x is = line_leaves A seat x.next x.said x.heard x.answer x.edits is.answered

pub exchanges_leave : {A : Type 0} (start last : TalkingSeat A) (xs : List (Exchange A)) → AreExchanges start xs last → Leaves start.seat last.seat (edits_of xs)
unfolding AreExchanges
exchanges_leave {A} start last [] is = leaves_same start.seat last.seat (ap (λ (s : TalkingSeat A). s.seat) is)
exchanges_leave {A} start last (x ∷ xs) is = leaves_more start.seat x.next.seat last.seat x.edits (edits_of xs) (exchange_leaves start x is.0) (exchanges_leave x.next last xs is.1)

-- ---- the end

-- what was done of the rest, or the end that never comes
abbrev pub Rested : {A : Type 0} → TalkingSeat A → (last : SeatContent A) → List (Edit A) → Result (Unit {0}) ToolFault → Type 0
Rested {A} seat last edits result = IsMiscounted seat.seat last ⊎ (Leaves seat.seat last edits × (result ≡ Err (Run Foreign) → ⊥))

left_rest : {A : Type 0} (seat : TalkingSeat A) (last : SeatContent A) (edits : List (Edit A)) (result : Result (Unit {0}) ToolFault) → (result ≡ Err (Run Foreign) → ⊥) → IsLeft seat last edits → Rested seat last edits result
left_rest {A} seat last edits result other is = inr (leaves_none seat.seat last edits is.none (leaves_same seat.seat last is.same), other)

kept_leaves : {A : Type 0} (seat : TalkingSeat A) (last : SeatContent A) (rest : List ℕ) → (last ≡ seat.seat) ⊎ HasDrawn seat last rest → Leaves seat.seat last []
kept_leaves seat last rest (inl same) = leaves_same seat.seat last same
kept_leaves seat last rest (inr drawn) = strip_leaves seat.seat last drawn.from drawn.kept.0 drawn.kept.2

looked_rest : {A : Type 0} (seat : TalkingSeat A) (last : SeatContent A) (rest : List ℕ) (edits : List (Edit A)) (result : Result (Unit {0}) ToolFault) → (result ≡ Err (Run Foreign) → ⊥) → HasLooked seat last rest edits → Rested seat last edits result
looked_rest {A} seat last rest edits result other is = inr (leaves_none seat.seat last edits is.none (kept_leaves seat last rest is.kept), other)

carried_rest : {A : Type 0} (seat : TalkingSeat A) (last : SeatContent A) (rest : List ℕ) (edits : List (Edit A)) (answer : List ℕ) (result : Result (Unit {0}) ToolFault) → (result ≡ Err (Run Foreign) → ⊥) → IsCarriedOut seat last rest edits answer
    → Rested seat last edits result
carried_rest {A} seat last rest edits answer result other is =
    inr (subst (λ (s : SeatContent A). Leaves seat.seat s edits) (sym is.last_is) (subst (λ (l : List (Edit A)). Leaves seat.seat is.exchange.next.seat l) (sym is.edits_are) (exchange_leaves seat is.exchange is.is)), other)

pub rested : {A : Type 0} (seat : TalkingSeat A) (last : SeatContent A) (rest told : List ℕ) (edits : List (Edit A)) (input output output' : Option (List ℕ)) (result : Result (Unit {0}) ToolFault) → TalkEnds seat last rest told edits input output output' result
    → Rested seat last edits result
rested seat last rest told edits input output output' (Ok u) is = left_rest seat last edits (Ok u) (λ e. absurd (cc e)) is.0
rested seat last rest told edits input output output' (Err (Read Failed)) is = left_rest seat last edits (Err (Read Failed)) (λ e. absurd (cc e)) is.0
rested seat last rest told edits input output output' (Err (Run (Write written))) (answer, inl is, cut) = carried_rest seat last rest edits answer (Err (Run (Write written))) (λ e. absurd (cc e)) is
rested seat last rest told edits input output output' (Err (Run (Write written))) (answer, inr is, cut) = left_rest seat last edits (Err (Run (Write written))) (λ e. absurd (cc e)) is.0
rested seat last rest told edits input output output' (Err (Run Memory)) (inl is, out) = looked_rest seat last rest edits (Err (Run Memory)) (λ e. absurd (cc e)) is
rested seat last rest told edits input output output' (Err (Run Memory)) (inr is, out) = carried_rest seat last rest edits is.0 (Err (Run Memory)) (λ e. absurd (cc e)) is.1
rested seat last rest told edits input output output' (Err (Run NoEntry)) is = looked_rest seat last rest edits (Err (Run NoEntry)) (λ e. absurd (cc e)) is.0
rested seat last rest told edits input output output' (Err (Run Foreign)) is = inl is
rested seat last rest told edits input output output' (Err (Read TooLong)) is = absurd is
rested seat last rest told edits input output output' (Err (Read NoRoom)) is = absurd is
rested seat last rest told edits input output output' (Err (Run (Size n))) is = absurd is
rested seat last rest told edits input output output' (Err (Run (Text error))) is = absurd is
rested seat last rest told edits input output output' (Err (Run (OffMovie frame len))) is = absurd is
rested seat last rest told edits input output output' (Err (Run (OffRange from to len))) is = absurd is
rested seat last rest told edits input output output' (Err (Run (NoNames row kind))) is = absurd is
rested seat last rest told edits input output output' (Err (Run (Stopped at opcode))) is = absurd is
rested seat last rest told edits input output output' (Err (Run (StoppedFrame frame at opcode))) is = absurd is
rested seat last rest told edits input output output' (Err (Run (Script number))) is = absurd is
rested seat last rest told edits input output output' (Err (Run (Place number))) is = absurd is
rested seat last rest told edits input output output' (Err (Run (Long number))) is = absurd is
rested seat last rest told edits input output output' (Err (Run NoPlace)) is = absurd is
rested seat last rest told edits input output output' (Err (Seat number fault)) is = absurd is

-- a conversation leaves its seat the number that it had
pub talk_number : {A : Type 0} (start last : SeatContent A) (input input' output output' : Option (List ℕ)) (result : Result (Unit {0}) ToolFault) → IsTalk start last input input' output output' result → last.number ≡ start.number
talk_number {A} start last input input' output output' result talk = go (rested talk.seat last talk.rest _ talk.more input' output output' result talk.ends)
  where
    first : Leaves start talk.seat.seat (edits_of talk.exchanges)
    first = exchanges_leave (talking start None) talk.seat talk.exchanges talk.answered

    go : Rested talk.seat last talk.more result → last.number ≡ start.number
    go (inl strange) = strange.seen.number ∙ first.number
    go (inr (left, other)) = left.number ∙ first.number

-- a seat's conversation whose seat is settled in the history: its edits are just the seat's in it, in order, and nobody else's stand among them
pub talk_in_history : {A : Type 0} (start last : SeatContent A) (input input' output output' : Option (List ℕ)) (result : Result (Unit {0}) ToolFault) (talk : IsTalk start last input input' output output' result) (history : List (Entry A))
    → start.made ≤ entries_of start.number start.front → IsSettled history last → IsInHistory history start last (all_edits talk) × (result ≡ Err (Run Foreign) → ⊥)
talk_in_history {A} start last input input' output output' result talk history seen settled =
    go (rested talk.seat last talk.rest _ talk.more input' output output' result talk.ends)
  where
    first : Leaves start talk.seat.seat (edits_of talk.exchanges)
    first = exchanges_leave (talking start None) talk.seat talk.exchanges talk.answered

    fewer : start.made ≤ length (entries_of_seat start.number start.front)
    fewer = subst (λ (k : ℕ). start.made ≤ k) (sym (by_length start.number start.front)) seen

    -- the seat's entries of the history, under the number that it had
    few : (last.number ≡ start.number) → length (entries_of_seat start.number last.front) ≤ last.made
    few named =
        let exact : length (entries_of_seat start.number history) ≡ last.made = ap (λ (n : ℕ). length (entries_of_seat n history)) (sym named) ∙ by_length last.number history ∙ settled.exact in
        omega (arith, exact, by_rest start.number last.front history settled.begins)

    go : Rested talk.seat last talk.more result → IsInHistory history start last (all_edits talk) × (result ≡ Err (Run Foreign) → ⊥)
    go (inl strange) =
        let named : last.number ≡ start.number = strange.seen.number ∙ first.number in
        let long : entries_of last.number last.front ≡ length (entries_of_seat start.number last.front) = sym (by_length last.number last.front) ∙ ap (λ (n : ℕ). length (entries_of_seat n last.front)) named in
        let more = by_rest start.number talk.seat.seat.front last.front strange.seen.begins in
        absurd (strange.other (omega (arith, long, more, few named, first.grows, first.made, strange.seen.made, fewer)))
    go (inr (left, other)) =
        let all : Leaves start last (all_edits talk) = leaves_more start talk.seat.seat last (edits_of talk.exchanges) talk.more first left in
        let own = all.own (omega (arith, few all.number, all.made, fewer)) in
        let exact : length (entries_of_seat start.number history) ≡ last.made = ap (λ (n : ℕ). length (entries_of_seat n history)) (sym all.number) ∙ by_length last.number history ∙ settled.exact in
        let whole : entries_of_seat start.number history ≡ entries_of_seat start.number last.front =
        prefix_equal start.number last.front history settled.begins (omega (arith, exact, all.grows, all.made, fewer)) in (
          record {
            begins = settled.begins;
            number = all.number;
            own = whole ∙ own;
            before = omega (arith, few all.number, all.grows, all.made, fewer);
          },
          other,
        )

-- ---- beginnings of the history

-- an answer's history is a beginning of what the seat has seen then
pub answer_begins : {A : Type 0} (before now : SeatContent A) (at : List (Entry A)) (edits : List (Edit A)) → IsSeatAfter before at edits now → IsPrefix at now.front
answer_begins before now at edits is = (entries_from before.number before.made edits, sym is.front)

reaches : {A : Type 0} (seat last : TalkingSeat A) (between after : List (Exchange A)) (x : Exchange A) → AreExchanges seat (between ++ x ∷ after) last → IsPrefix seat.seat.front x.next.seat.front
unfolding AreExchanges
reaches {A} seat last [] after x is = (exchange_leaves seat x is.0).seen
reaches {A} seat last (y ∷ between) after x is = prefix_trans seat.seat.front y.next.seat.front x.next.seat.front (exchange_leaves seat y is.0).seen (reaches y.next last between after x is.1)

-- the last of some lines' seats has seen all that the seat of one of them has seen
pub exchange_begins : {A : Type 0} (start last : TalkingSeat A) (before after : List (Exchange A)) (x : Exchange A) → AreExchanges start (before ++ x ∷ after) last → IsPrefix x.next.seat.front last.seat.front
unfolding AreExchanges
exchange_begins {A} start last [] after x is = (exchanges_leave x.next last after is.1).seen
exchange_begins {A} start last (y ∷ before) after x is = exchange_begins y.next last before after x is.1

-- and so has the seat of each line after it
pub exchange_grows : {A : Type 0} (start last : TalkingSeat A) (before between after : List (Exchange A)) (x y : Exchange A) → AreExchanges start (before ++ x ∷ (between ++ y ∷ after)) last → IsPrefix x.next.seat.front y.next.seat.front
unfolding AreExchanges
exchange_grows {A} start last [] between after x y is = reaches x.next last between after y is.1
exchange_grows {A} start last (z ∷ before) between after x y is = exchange_grows z.next last before between after x y is.1

-- a conversation leaves its seat the number that it had, and all that it had seen
pub talk_seen : {A : Type 0} (start last : SeatContent A) (input input' output output' : Option (List ℕ)) (result : Result (Unit {0}) ToolFault) → IsTalk start last input input' output output' result
    → (last.number ≡ start.number) × IsPrefix start.front last.front
talk_seen {A} start last input input' output output' result talk = (
  talk_number start last input input' output output' result talk,
  prefix_trans start.front talk.seat.seat.front last.front (exchanges_leave (talking start None) talk.seat talk.exchanges talk.answered).seen (go (rested talk.seat last talk.rest _ talk.more input' output output' result talk.ends)),
)
  where
    go : Rested talk.seat last talk.more result → IsPrefix talk.seat.seat.front last.front
    go (inl strange) = strange.seen.begins
    go (inr (left, other)) = left.seen
