-- What holds of all notes. The proofs are here, since a trait's laws take none from elsewhere in the crate.
use Rattle.std.specs.Prelude.{is_some, ◌==◌, if◌then◌else◌}
use Rattle.std.proofs.Common.{◌≡◌, ℕ, zero, suc, ◌+◌, ◌≤◌, List, [], ◌∷◌, length, take, drop, Bool, true, false, Option, Some, None, refl, sym, ap, subst, ◌∙◌, arith}
use Rattle.std.specs.Io.KnownBytes.{Appends}
use Rattle.std.proofs.lemmas.List.{length-append, take-append-le, take-append-drop}
use mathlib.Core.List.{IsPrefix}
use Rattle.tas_movie.specs.declared.edit.Edit.{Edit}
use Rattle.tas_published.specs.declared.entry.Entry.{Entry}
use Rattle.tas_published.specs.History.{entries_of, movie_of}
use Rattle.tas_desk.specs.Seats.{SeatContent}
use Rattle.tas_desk.proofs.SeatLemmas.{entries_of-prefix}
use Rattle.tas_language.specs.declared.command.Command.{Command}
use Rattle.tas_language.specs.declared.command.Command.TheVariants.{Load, Edit as EditLine, Length, InputAt, Shot, Work}
use Rattle.tas_language.specs.declared.request.Request.{Request}
use Rattle.tas_language.specs.declared.request.Request.TheVariants.{Do, Retouch, Picture, Pictures, Ram, Digest, Lag, Inputs, Movie, States, Share, History, Version, Begin, Commit, Drop, Quit}
use Rattle.tas_seat.specs.Drafts.{DraftContent}
use Rattle.tas_seat.specs.Edits.{made_between, requested_edits}
use Rattle.tas_seat.specs.Turns.{Standing, standing_of}
use Rattle.tas_seat.specs.Seats.{IsAnsweredAt}
use Rattle.tas_seat.specs.Conversations.{TalkingSeat, IsTalkAnswered, IsAnsweredOutside, IsAnsweredInside}
use Rattle.tas_seat.specs.Outcomes.{HasTalkAnswer}
use Rattle.tas_seat.proofs.HistoryLemmas.{Leaves, by_length, line_leaves}
use Rattle.tas_journaling.specs.declared.journal.JournalFault.{JournalFault}
use Rattle.tas_journaling.specs.declared.journal.JournalFault.TheVariants.{Write, Sync, Memory}
use Rattle.tas_journaling.specs.Journals.{JournalContent, IsNoted, HasAll, HasLess, lines_from}
use Rattle.tas_journaling.specs.Noting.{NoteFacts, may_edit, FallsShort, alone_notes, HasOwn, HasOwnIn, IsReadyIn, shared_notes}

-- notes that cover a seat are ready for its next request; an answer leaves them ready, and what falls short of the seat then falls short of it before; and
-- what they have at the end, where they are as they were after the last answer, or fell short since
pub record AreNoteLaws {A J : Type 0} (notes : NoteFacts A J) : Type 0 where
  pub covers_ready : (edits : Bool) (head : Option (List ℕ)) (seat : SeatContent A) (now : J) → notes.covers head seat now → notes.ready edits head seat now
  pub ready_on : (head : Option (List ℕ)) (before now : TalkingSeat A) (request : Request) (answer : List ℕ) (it : J) → HasTalkAnswer A before now request answer → notes.ready (may_edit (is_some before.draft) request) head before.seat it
      → notes.ready (may_edit (is_some before.draft) request) head now.seat it
  pub short_on : (before now : TalkingSeat A) (last : SeatContent A) (request : Request) (answer : List ℕ) (old new : J) (fault : JournalFault) → HasTalkAnswer A before now request answer → notes.short now.seat last old new fault
      → notes.short before.seat last old new fault
  pub rests_on : (head : Option (List ℕ)) (answered last : SeatContent A) (old new : J) → notes.covers head answered old → IsPrefix answered.front last.front → new ≡ old → notes.rests head answered last new
  pub lacks_on : (head : Option (List ℕ)) (answered last : SeatContent A) (old new : J) (fault : JournalFault) → notes.covers head answered old → IsPrefix answered.front last.front → notes.short answered last old new fault
      → notes.lacks head answered last new fault

-- ---- a journal of one caller

pub prefix_length : {X : Type 0} (a b : List X) (p : IsPrefix a b) → length b ≡ length a + length p.0
prefix_length {X} a b p = ap (λ (l : List X). length l) (sym p.1) ∙ length-append a p.0

-- of a longer history a journal has the same beginning
pub noted_on : {A : Type 0} (head : Option (List ℕ)) (old new : List (Entry A)) (journal : JournalContent) → IsNoted head old journal → IsPrefix old new → IsNoted head new journal
noted_on {A} head old new journal is more =
    let same : take journal.upto new ≡ take journal.upto old =
    ap (λ (l : List (Entry A)). take journal.upto l) (sym more.1) ∙ take-append-le journal.upto old more.0 is.few in
    record {
      whole = is.whole;
      from = is.from;
      few = omega (arith, is.few, prefix_length old new more);
      bytes = subst (λ (l : List (Entry A)). Appends head journal.bytes (lines_from journal.first l)) (sym same) is.bytes;
    }

-- what a seat had seen begins what it has seen once it is answered
noted_then : {A : Type 0} (head : Option (List ℕ)) (before now : TalkingSeat A) (request : Request) (answer : List ℕ) (journal : JournalContent) → HasTalkAnswer A before now request answer → IsNoted head before.seat.front journal → IsNoted head now.seat.front journal
noted_then {A} head before now request answer journal answered is =
    noted_on head before.seat.front now.seat.front journal is (line_leaves A before now [] (Some request) answer answered.0 answered.1).seen

short_from : {A : Type 0} (before now : TalkingSeat A) (last : SeatContent A) (request : Request) (answer : List ℕ) (old new : JournalContent) (fault : JournalFault) → HasTalkAnswer A before now request answer → FallsShort now.seat last old new fault
    → FallsShort before.seat last old new fault
short_from before now last request answer old new Memory answered short = short
short_from before now last request answer old new Write answered short = λ head is. short head (noted_then head before now request answer old answered is)
short_from before now last request answer old new Sync answered short = λ head is. short head (noted_then head before now request answer old answered is)

kept_on : {A : Type 0} (head : Option (List ℕ)) (answered last : SeatContent A) (old new : JournalContent) → HasAll head answered.front old → IsPrefix answered.front last.front → new ≡ old → IsNoted head last.front new × (new.upto ≡ length answered.front)
kept_on {A} head answered last old new all more is =
    (subst (λ (j : JournalContent). IsNoted head last.front j) (sym is) (noted_on head answered.front last.front old all.noted more), ap (λ (j : JournalContent). j.upto) is ∙ all.all)

less_on : {A : Type 0} (head : Option (List ℕ)) (answered last : SeatContent A) (old new : JournalContent) (fault : JournalFault) → HasAll head answered.front old → IsPrefix answered.front last.front → FallsShort answered last old new fault
    → HasLess head last.front new fault × (new.upto ≡ length answered.front)
less_on head answered last old new Memory all more short = kept_on head answered last old new all more short
less_on head answered last old new Write all more short = let cut = short head all.noted in (cut.0, cut.1 ∙ all.all)
less_on head answered last old new Sync all more short = let cut = short head all.noted in (cut.0, cut.1 ∙ all.all)

pub alone_laws : {A : Type 0} → AreNoteLaws (alone_notes {A = A})
alone_laws = record {
  covers_ready = λ edits head seat now all. all.noted;
  ready_on = λ head before now request answer it answered is. noted_then head before now request answer it answered is;
  short_on = λ before now last request answer old new fault answered short. short_from before now last request answer old new fault answered short;
  rests_on = λ head answered last old new all more is. kept_on head answered last old new all more is;
  lacks_on = λ head answered last old new fault all more short. less_on head answered last old new fault all more short;
}

-- ---- requests that make no edits

between_none : {A : Type 0} (old new : Standing) → made_between {A = A} old new [] ≡ []
between_none {A} old new = go (new.made == old.made) [] refl
  where
    go : (same : Bool) (edits : List (Edit A)) → edits ≡ [] → (if same then [] else edits) ≡ []
    go true edits is = refl
    go false edits is = is

answered_none : (A : Type 0) (before now : SeatContent A) (request : Request) (answer : List ℕ) (edits : List (Edit A)) → (is : IsAnsweredAt A before now request answer edits) → requested_edits A (movie_of is.at) request ≡ [] → edits ≡ []
answered_none A before now request answer edits is none =
    is.made ∙ ap (λ (l : List (Edit A)). made_between (standing_of is.at) (standing_of now.front) l) none ∙ between_none (standing_of is.at) (standing_of now.front)

command_none : (A : Type 0) (before now : SeatContent A) (command : Command) (answer : List ℕ) (edits : List (Edit A)) → IsAnsweredAt A before now (Do command) answer edits → may_edit false (Do command) ≡ false → edits ≡ []
command_none A before now (Load image) answer edits is none = absurd (cc none)
command_none A before now (EditLine change) answer edits is none = absurd (cc none)
command_none A before now Length answer edits is none = answered_none A before now (Do Length) answer edits is refl
command_none A before now (InputAt k) answer edits is none = answered_none A before now (Do (InputAt k)) answer edits is refl
command_none A before now (Shot k) answer edits is none = answered_none A before now (Do (Shot k)) answer edits is refl
command_none A before now (Work k) answer edits is none = answered_none A before now (Do (Work k)) answer edits is refl

outside_none : (A : Type 0) (before : SeatContent A) (now : TalkingSeat A) (request : Request) (answer : List ℕ) (edits : List (Edit A)) → IsAnsweredOutside A before now request answer edits → may_edit false request ≡ false → edits ≡ []
outside_none A before now (Do command) answer edits is none = command_none A before now.seat command answer edits is.0 none
outside_none A before now (Retouch retouch) answer edits is none = absurd (cc none)
outside_none A before now (Picture k) answer edits is none = answered_none A before now.seat (Picture k) answer edits is.0 refl
outside_none A before now (Pictures from to) answer edits is none = is.0.0
outside_none A before now (Ram k) answer edits is none = answered_none A before now.seat (Ram k) answer edits is.0 refl
outside_none A before now (Digest k) answer edits is none = answered_none A before now.seat (Digest k) answer edits is.0 refl
outside_none A before now (Lag from to) answer edits is none = answered_none A before now.seat (Lag from to) answer edits is.0 refl
outside_none A before now (Inputs from to) answer edits is none = answered_none A before now.seat (Inputs from to) answer edits is.0 refl
outside_none A before now Movie answer edits is none = answered_none A before now.seat Movie answer edits is.0 refl
outside_none A before now States answer edits is none = answered_none A before now.seat States answer edits is.0 refl
outside_none A before now Share answer edits is none = answered_none A before now.seat Share answer edits is.0 refl
outside_none A before now (History from) answer edits is none = is.0.0
outside_none A before now Version answer edits is none = answered_none A before now.seat Version answer edits is.0 refl
outside_none A before now Begin answer edits is none = is.1
outside_none A before now Commit answer edits is none = is.2.none
outside_none A before now Drop answer edits is none = is.2.none
outside_none A before now Quit answer edits is none = absurd is

inside_none : (A : Type 0) (before : SeatContent A) (draft : DraftContent) (now : TalkingSeat A) (request : Request) (answer : List ℕ) (edits : List (Edit A)) → IsAnsweredInside A before draft now request answer edits → may_edit true request ≡ false → edits ≡ []
inside_none A before draft now (Do command) answer edits is none = is.4.none
inside_none A before draft now (Retouch retouch) answer edits is none = is.4.none
inside_none A before draft now (Picture k) answer edits is none = is.4.none
inside_none A before draft now (Pictures from to) answer edits is none = is.4.none
inside_none A before draft now (Ram k) answer edits is none = is.4.none
inside_none A before draft now (Digest k) answer edits is none = is.4.none
inside_none A before draft now (Lag from to) answer edits is none = is.4.none
inside_none A before draft now (Inputs from to) answer edits is none = is.4.none
inside_none A before draft now Movie answer edits is none = is.4.none
inside_none A before draft now States answer edits is none = is.4.none
inside_none A before draft now Share answer edits is none = answered_none A before now.seat Share answer edits is.0 refl
inside_none A before draft now (History from) answer edits is none = is.0.0
inside_none A before draft now Version answer edits is none = is.4.none
inside_none A before draft now Begin answer edits is none = is.2.none
inside_none A before draft now Commit answer edits is none = absurd (cc none)
inside_none A before draft now Drop answer edits is none = is.2.none
inside_none A before draft now Quit answer edits is none = absurd is

request_none : (A : Type 0) (before : SeatContent A) (draft : Option DraftContent) (now : TalkingSeat A) (request : Request) (answer : List ℕ) (edits : List (Edit A)) → IsTalkAnswered A before draft now request answer edits → may_edit (is_some draft) request ≡ false → edits ≡ []
request_none A before None now request answer edits is none = outside_none A before now request answer edits is none
request_none A before (Some draft) now request answer edits is none = inside_none A before draft now request answer edits is none

-- ---- a journal that several share

-- of a longer history its first entries are more, or the same
take_on : {X : Type 0} (n : ℕ) (xs ys : List X) → IsPrefix xs ys → IsPrefix (take n xs) (take n ys)
take_on zero xs ys p = ([], refl)
take_on {X} (suc n) [] ys p = (take (suc n) ys, refl)
take_on (suc n) (x ∷ xs) [] p = absurd (cc p.1)
take_on {X} (suc n) (x ∷ xs) (y ∷ ys) p =
    let heads : x ≡ y = cc p.1 in
    let rest = take_on n xs ys (p.0, cc p.1) in
    (rest.0, cc (heads, rest.1))

-- they have no fewer entries of a seat
pub own_on : {A : Type 0} (number told : ℕ) (xs ys : List (Entry A)) → IsPrefix xs ys → entries_of number (take told xs) ≤ entries_of number (take told ys)
own_on number told xs ys p = entries_of-prefix number (take told xs) (take told ys) (take_on told xs ys p)

-- a seat that has seen more, and made nothing
pub own_in_on : {A : Type 0} (before now : SeatContent A) (told : ℕ) → now.number ≡ before.number → now.made ≡ before.made → IsPrefix before.front now.front → HasOwnIn before told → HasOwnIn now told
own_in_on {A} before now told number made begins is =
    let more = own_on before.number told before.front now.front begins in
    let named = ap (λ (n : ℕ). entries_of n (take told now.front)) number in
    omega (arith, is, more, named, made)

pub own_seen_on : {A : Type 0} (before now : SeatContent A) → now.number ≡ before.number → now.made ≡ before.made → IsPrefix before.front now.front → HasOwn before → HasOwn now
own_seen_on {A} before now number made begins is =
    let more = entries_of-prefix before.number before.front now.front begins in
    let named = ap (λ (n : ℕ). entries_of n now.front) number in
    omega (arith, is, more, named, made)

-- edits that are among some entries have been seen
begin_of : {X : Type 0} (n : ℕ) (xs : List X) → IsPrefix (take n xs) xs
begin_of n xs = (drop n xs, take-append-drop n xs)

pub own_seen : {A : Type 0} (seat : SeatContent A) (told : ℕ) → HasOwnIn seat told → HasOwn seat
own_seen seat told is = omega (arith, is, entries_of-prefix seat.number (take told seat.front) seat.front (begin_of told seat.front))

-- an answer's edits have been seen, too
pub own_then : {A : Type 0} (before now : SeatContent A) (edits : List (Edit A)) → Leaves before now edits → HasOwn before → HasOwn now
own_then {A} before now edits left is =
    let was = by_length before.number before.front in
    let same = by_length before.number now.front in
    let named = ap (λ (n : ℕ). entries_of n now.front) left.number in
    omega (arith, is, was, same, named, left.made, left.grows)

ready_then : {A : Type 0} (e : Bool) (before now : TalkingSeat A) (request : Request) (answer : List ℕ) (told : ℕ) → may_edit (is_some before.draft) request ≡ e → HasTalkAnswer A before now request answer → IsReadyIn e before.seat told → IsReadyIn e now.seat told
ready_then {A} true before now request answer told is answered ready = own_then before.seat now.seat answered.0 (line_leaves A before now [] (Some request) answer answered.0 answered.1) ready
ready_then {A} false before now request answer told is answered ready =
    let left = line_leaves A before now [] (Some request) answer answered.0 answered.1 in
    let none = request_none A before.seat before.draft now request answer answered.0 answered.1 is in
    own_in_on before.seat now.seat told left.number (omega (arith, left.made, ap (λ (l : List (Edit A)). length l) none)) left.seen ready

ready_in : {A : Type 0} (e : Bool) (seat : SeatContent A) (told : ℕ) → HasOwnIn seat told → IsReadyIn e seat told
ready_in true seat told is = own_seen seat told is
ready_in false seat told is = is

told_as : {A : Type 0} (seat : SeatContent A) (old new : ℕ) → new ≡ old → HasOwnIn seat old → HasOwnIn seat new
told_as {A} seat old new is own = subst (λ (k : ℕ). HasOwnIn seat k) (sym is) own

pub shared_laws : {A : Type 0} → AreNoteLaws (shared_notes {A = A})
shared_laws = record {
  covers_ready = λ edits head seat now is. ready_in edits seat now is;
  ready_on = λ head before now request answer it answered is. ready_then (may_edit (is_some before.draft) request) before now request answer it refl answered is;
  short_on = λ before now last request answer old new fault answered short. short;
  rests_on = λ head answered last old new is more same. told_as answered old new same is;
  lacks_on = λ head answered last old new fault is more short. told_as answered old new short is;
}
