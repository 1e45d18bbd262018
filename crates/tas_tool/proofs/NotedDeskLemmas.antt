-- A desk's seats and its journal, from its opening to its end.
use Rattle.std.proofs.Common.{◌≡◌, ℕ, zero, suc, ◌+◌, ◌<◌, ◌≤◌, ◌==◌, cond, Bool, true, false, List, [], ◌∷◌, ◌++◌, length, take, drop, map, get_or, Option, Some, None, Result, Ok, Err, ◌⊎◌, inl, inr, refl, sym, ap, subst, ◌∙◌, arith}
use Rattle.std.specs.Prelude.{All, slice_get, Vec}
use Rattle.std.specs.Io.KnownBytes.{Appends, Keeps}
use Rattle.std.proofs.KnownBytes.{Keeps-refl}
use Rattle.std.proofs.lemmas.Bool.{cases_lt}
use Rattle.std.proofs.lemmas.Bool.Decides.{nat_tests}
use Rattle.std.proofs.lemmas.List.{at_drop_more, at_drop_all, length-append, length-map}
use Rattle.std.proofs.lemmas.Option.{same_Some, slice_get_within, get_or_from_slice_get}
use mathlib.Core.List.{IsPrefix}
use Rattle.tas_movie.specs.Content.{MovieContent}
use Rattle.tas_published.specs.declared.entry.Entry.{Entry}
use Rattle.tas_published.specs.History.{movie_of, entries_of, IsLegal}
use Rattle.tas_published.specs.Strokes.{edits_in}
use Rattle.tas_published.proofs.PrefixLemmas.{prefix_trans}
use Rattle.tas_desk.specs.Seats.{SeatContent, KeepsZone, IsWhole, IsSettled}
use Rattle.tas_desk.specs.Closing.{made_by}
use Rattle.tas_desk.specs.Zones.{ZoneContent}
use Rattle.tas_desk.proofs.SeatLemmas.{count_by-cons, entries_of-prefix}
use Rattle.tas_engines.specs.declared.fault.RunFault.{RunFault}
use Rattle.tas_engines.specs.declared.fault.RunFault.TheVariants.{NoPlace, Memory}
use Rattle.tas_engines.specs.declared.fault.ToolFault.{ToolFault}
use Rattle.tas_engines.specs.declared.fault.ToolFault.TheVariants.{Run}
use Rattle.tas_seat.specs.Lines.{DoorFacts}
use Rattle.tas_journal.specs.Text.{head_text}
use Rattle.tas_journaling.specs.Journals.{JournalContent}
use Rattle.tas_journaling.specs.Noting.{HasOwnIn}
use Rattle.tas_journaling.specs.NoteLaws.{own_on}
use Rattle.tas_journaling.specs.Shared.{HasBeginning, HasSynced, IsBlankOn}
use Rattle.tas_journaling.specs.Callers.{WasNoted}
use Rattle.tas_journaling.specs.declared.callers.CallFault.{CallFault}
use Rattle.tas_journaling.specs.declared.callers.CallFault.TheVariants as call
use Rattle.tas_journaling.proofs.CallLemmas.{call_in_history, call_seen, own_more, take_more}
use Rattle.tas_journaling.proofs.NoteLemmas.{keeps_same}
use Rattle.tas_journaling.proofs.SharedLemmas.{from_in, synced_on, upto_in}
use Rattle.tas_tool.specs.Desks.{IsBlankZone}
use Rattle.tas_tool.specs.declared.noted_desk_runs.DeskFault.{DeskFault}
use Rattle.tas_tool.specs.declared.noted_desk_runs.DeskFault.TheVariants as failed
use Rattle.tas_tool.specs.NotedDesks.{first_call_fault, IsFileOf, IsNotedSeatOf, IsNotedDeskHistory, IsNoNotedBeginning, IsNotedDeskOn, IsNotedDeskRun, NotedDeskEnds}
use Rattle.tas_tool.specs.Inside.TwoEdits.{HoldsMovie}
use Rattle.tas_tool.specs.Inside.Holding.{AreNumbered, HaveMovie, AreHeldIn, IsNotedIn, NotesAll, NotesInto, IsNotedDesk, IsNotedStart, HasRoom, ReadsMovie}
use Rattle.tas_tool.proofs.HoldingLemmas.{HasBegun, Leaves, KeepsNumber, back_numbered, done_at, held_lent, history_of, holds_all, nobody_else, take_prefix, there, whole_seats}

-- ---- a list and one item after it

at_front : {X : Type 0} (xs : List X) (y : X) (k : ℕ) (x : X) → slice_get xs k ≡ Some x → slice_get (xs ++ y ∷ []) k ≡ Some x
at_front [] y k x is = absurd (cc is)
at_front (z ∷ xs) y zero x is = is
at_front (z ∷ xs) y (suc k) x is = at_front xs y k x is

at_last : {X : Type 0} (xs : List X) (y : X) → slice_get (xs ++ y ∷ []) (length xs) ≡ Some y
at_last [] y = refl
at_last (x ∷ xs) y = at_last xs y

at_either : {X : Type 0} (xs : List X) (y : X) (k : ℕ) (x : X) → slice_get (xs ++ y ∷ []) k ≡ Some x → (slice_get xs k ≡ Some x) ⊎ ((k ≡ length xs) × (y ≡ x))
at_either [] y zero x is = inr (refl, same_Some y x is)
at_either [] y (suc k) x is = absurd (cc is)
at_either (z ∷ xs) y zero x is = inl is
at_either (z ∷ xs) y (suc k) x is = elim (at_either xs y k x is) [ inl there ↦ inl there | inr here ↦ inr (ap suc here.0, here.1) ]

all_front : {X : Type 0} (P : X → Type 0) (xs : List X) (y : X) → All P (xs ++ y ∷ []) → All P xs
all_front P [] y all k d low = absurd (omega (arith, low))
all_front P (x ∷ xs) y all zero d low = all zero d (omega arith)
all_front {X} P (x ∷ xs) y all (suc k) d low = all_front P xs y (λ (j : ℕ) (e : X) lt. all (suc j) e (omega (arith, lt))) k d (omega (arith, low))

all_last : {X : Type 0} (P : X → Type 0) (xs : List X) (y : X) → All P (xs ++ y ∷ []) → P y
all_last P [] y all = all zero y (omega arith)
all_last {X} P (x ∷ xs) y all = all_last P xs y (λ (j : ℕ) (e : X) lt. all (suc j) e (omega (arith, lt)))

-- there are as many callers as seats that they were paired up with
pub callers_count : {X Y : Type 0} (f : X → Y) (callers : List X) (seats lent : List Y) (n : ℕ) → map f callers ≡ seats → seats ≡ lent → length lent ≡ n → length callers ≡ n
callers_count {X} {Y} f callers seats lent n paired back long = sym (length-map callers f) ∙ ap (λ (l : List Y). length l) (paired ∙ back) ∙ long

-- an empty list has room for as many
pub room_as : {X A : Type 0} (n m : ℕ) (items : Vec X A) → m ≡ n → HasRoom n items → HasRoom m items
room_as n m items same room = subst (λ (k : ℕ). HasRoom k items) (sym same) room

-- there is room for one more than the callers whose seats are in a list
pub room_for_own : {X Y : Type 0} (f : X → Y) (callers : List X) (seats : List Y) (len cap : ℕ) → seats ≡ map f callers → len ≡ length seats → length callers + 1 ≤ cap → len < cap
room_for_own {X} {Y} f callers seats len cap is same room = omega (arith, same, ap (λ (l : List Y). length l) is, length-map callers f, room)

-- ---- the journal's seat

-- the seats before the last one
pub start_front : {A : Type 0} (movie : MovieContent) (seats : List (SeatContent A)) (own : SeatContent A) → 0 < length seats → IsNotedStart movie (seats ++ own ∷ []) → IsNotedStart movie seats
start_front {A} movie seats own some start = record {
  numbers = λ k s is. start.numbers k s (at_front seats own k s is);
  others = λ k s is. start.others k s (at_front seats own (suc k) s is);
  has = record {
    first = start.has.first;
    first_is = first seats some start.has.first_is;
    holds = start.has.holds;
    met = λ k s is. start.has.met k s (at_front seats own k s is);
  };
  zones = λ k s is. start.zones k s (at_front seats own k s is);
}
  where
    first : (ss : List (SeatContent A)) → 0 < length ss → slice_get (ss ++ own ∷ []) 0 ≡ Some start.has.first → slice_get ss 0 ≡ Some start.has.first
    first [] low is = absurd (omega (arith, low))
    first (s ∷ ss) low is = is

-- the last one made nothing
pub own_last : {A : Type 0} (movie : MovieContent) (seats : List (SeatContent A)) (own : SeatContent A) → 0 < length seats → IsNotedStart movie (seats ++ own ∷ []) → (own.number ≡ length seats) × (own.made ≡ 0)
own_last {A} movie seats own some start = (start.numbers (length seats) own (at_last seats own), made seats some (at_last seats own))
  where
    made : (ss : List (SeatContent A)) → 0 < length ss → slice_get (seats ++ own ∷ []) (length ss) ≡ Some own → own.made ≡ 0
    made [] low is = absurd (omega (arith, low))
    made (s ∷ ss) low is = start.others (length ss) own is

-- the seats of a desk, with the journal's for the last one that was taken off
pub begun_start : {A : Type 0} (movie : MovieContent) (all seats : List (SeatContent A)) (own : SeatContent A) (n count : ℕ) → all ≡ seats ++ own ∷ [] → length all ≡ n → count + 1 ≡ n → 1 ≤ count → IsNotedStart movie all
    → IsNotedStart movie seats × ((own.number ≡ length seats) × (own.made ≡ 0)) × (length seats ≡ count)
begun_start {A} movie all seats own n count is long many some start = (start_front movie seats own low whole, own_last movie seats own low whole, same)
  where
    whole : IsNotedStart movie (seats ++ own ∷ [])
    whole = subst (λ (l : List (SeatContent A)). IsNotedStart movie l) is start

    same : length seats ≡ count
    same = omega (arith, ap (λ (l : List (SeatContent A)). length l) is, length-append seats (own ∷ []), long, many)

    low : 0 < length seats
    low = omega (arith, same, some)

-- ---- seats that were shown more

kept_movie : {A : Type 0} (movie : MovieContent) (first first' : SeatContent A) → HoldsMovie first movie → KeepsZone first first' → HoldsMovie first' movie × (take 2 first'.front ≡ take 2 first.front)
kept_movie {A} movie first first' holds kept = (
  record {
    made = kept.seen.made ∙ holds.made;
    seen = omega (arith, holds.seen, ap (λ (l : List (Entry A)). length l) kept.seen.begins.1, length-append first.front kept.seen.begins.0);
    own = subst (λ (l : List (Entry A)). entries_of first'.number l ≡ 2) (sym two) (subst (λ (n : ℕ). entries_of n (take 2 first.front) ≡ 2) (sym kept.seen.number) holds.own);
    edits = ap (λ (l : List (Entry A)). edits_in l) two ∙ holds.edits;
    movie_is = ap movie_of two ∙ holds.movie_is;
  },
  two,
)
  where
    two : take 2 first'.front ≡ take 2 first.front
    two = take_prefix 2 first.front first'.front kept.seen.begins holds.seen

-- each was shown more of the history, or nothing
abbrev pub AreKept : {A : Type 0} → (old new : List (SeatContent A)) → Type 0
AreKept {A} old new = (k : ℕ) (d : SeatContent A) → k < length old → KeepsZone (get_or old k d) (get_or new k d)

pub start_kept : {A : Type 0} (movie : MovieContent) (old new : List (SeatContent A)) → length new ≡ length old → AreKept old new → IsNotedStart movie old → IsNotedStart movie new
start_kept {A} movie old new same kept start = record {
  numbers = λ k s is. let was = at k s is in was.2.seen.number ∙ start.numbers k was.0 was.1;
  others = λ k s is. let was = at (suc k) s is in was.2.seen.made ∙ start.others k was.0 was.1;
  has = record { first = first.0; first_is = first.1; holds = holds.0; met = met };
  zones = λ k s is. let was = at k s is in subst (λ (z : ZoneContent A). IsBlankZone z) (sym was.2.zone) (start.zones k was.0 was.1);
}
  where
    at : (k : ℕ) (s : SeatContent A) → slice_get new k ≡ Some s → (was : SeatContent A) × (slice_get old k ≡ Some was) × KeepsZone was s
    at k s is = done_at (λ (b : SeatContent A) (n : SeatContent A). KeepsZone b n) old new same kept k s is

    first : (s : SeatContent A) × (slice_get new 0 ≡ Some s)
    first = there new old 0 start.has.first same start.has.first_is

    first_kept : KeepsZone start.has.first first.0
    first_kept =
        let was = at 0 first.0 first.1 in
        subst (λ (b : SeatContent A). KeepsZone b first.0) (same_Some was.0 start.has.first (sym was.1 ∙ start.has.first_is)) was.2

    holds : HoldsMovie first.0 movie × (take 2 first.0.front ≡ take 2 start.has.first.front)
    holds = kept_movie movie start.has.first first.0 start.has.holds first_kept

    met : (k : ℕ) (s : SeatContent A) → slice_get new k ≡ Some s → IsPrefix (take 2 first.0.front) s.front
    met k s is =
        let was = at k s is in
        subst (λ (l : List (Entry A)). IsPrefix l s.front) (sym holds.1) (prefix_trans (take 2 start.has.first.front) was.0.front s.front (start.has.met k was.0 was.1) was.2.seen.begins)

-- they keep their numbers
pub numbers_kept : {A : Type 0} (old new : List (SeatContent A)) → length new ≡ length old → AreKept old new → AreNumbered old → AreNumbered new
numbers_kept {A} old new same kept are k s is =
    let was = done_at (λ (b : SeatContent A) (n : SeatContent A). KeepsZone b n) old new same kept k s is in
    let one : KeepsZone was.0 s = was.2 in
    one.seen.number ∙ are k was.0 was.1

-- the first seat has seen the movie's two edits
pub first_seen : {A : Type 0} (movie : MovieContent) (seats : List (SeatContent A)) (d : SeatContent A) → HaveMovie movie seats → 2 ≤ length (get_or seats 0 d).front
first_seen {A} movie seats d has = subst (λ (s : SeatContent A). 2 ≤ length s.front) (sym (get_or_from_slice_get seats 0 has.first d has.first_is)) has.holds.seen

-- the first seat was shown more
pub first_kept : {A : Type 0} (old : List (SeatContent A)) (first first' : SeatContent A) (others : List (SeatContent A)) → old ≡ first ∷ others → KeepsZone first first' → AreKept old (first' ∷ others)
first_kept {A} old first first' others is kept = subst (λ (l : List (SeatContent A)). AreKept l (first' ∷ others)) (sym is) go
  where
    go : AreKept (first ∷ others) (first' ∷ others)
    go zero d low = kept
    go (suc k) d low = keeps_same (get_or others k d)

-- ---- the history

-- nobody but the seats before this one has entries, where this one has none
sharper : {A : Type 0} (n : ℕ) (log : List (Entry A)) → All (λ (e : Entry A). e.seat < n + 1) log → entries_of n log ≡ 0 → All (λ (e : Entry A). e.seat < n) log
sharper n [] all none k d low = absurd (omega (arith, low))
sharper {A} n (e ∷ log) all none zero d low =
    let c = count_by-cons (λ (x : Entry A). x.seat == n) e log in
    let here = all zero d (omega arith) in
    elim (cases_lt e.seat n) [
      | inl lt ↦ lt
      | inr above ↦ let same : (e.seat == n) ≡ true = grind (arith, nat_tests) in absurd (omega (arith, c, none, ap {B = ℕ} (λ (b : Bool). cond b 1 0) same))
    ]
sharper {A} n (e ∷ log) all none (suc k) d low =
    let c = count_by-cons (λ (x : Entry A). x.seat == n) e log in
    sharper n log (λ (j : ℕ) (x : Entry A) lt. all (suc j) x (omega (arith, lt))) (omega (arith, c, none)) k d (omega (arith, low))

-- seats that come back, with the journal's
numbered_with : {A : Type 0} (backs : List (SeatContent A)) (own : SeatContent A) → AreNumbered backs → own.number ≡ length backs → AreNumbered (backs ++ own ∷ [])
numbered_with {A} backs own are number k s is = elim (at_either backs own k s is) [
  | inl there ↦ are k s there
  | inr here ↦ ap (λ (t : SeatContent A). t.number) (sym here.1) ∙ number ∙ sym here.0
]

-- they are all of the desk's
pub whole_with : {A : Type 0} (n : ℕ) (backs : List (SeatContent A)) (own : SeatContent A) → AreNumbered backs → own.number ≡ length backs → length backs + 1 ≡ n → IsWhole n (backs ++ own ∷ [])
whole_with n backs own are number count = whole_seats n (backs ++ own ∷ []) (numbered_with backs own are number) (length-append backs (own ∷ []) ∙ count)

-- what a caller was told of is in the journal
told_at : {X E : Type 0} (end : X → E) (told : X → ℕ) (xs : List X) (k : ℕ) (e : E) → slice_get (map end xs) k ≡ Some e → (t : ℕ) × (slice_get {X = E × ℕ} (map (λ x. (end x, told x)) xs) k ≡ Some (e, t)) × (slice_get (map told xs) k ≡ Some t)
told_at end told [] k e is = absurd (cc is)
told_at {X} {E} end told (x ∷ xs) zero e is = (told x, ap (λ (v : E). Some (v, told x)) (same_Some (end x) e is), refl)
told_at end told (x ∷ xs) (suc k) e is = told_at end told xs k e is

all_at : {X : Type 0} (P : X → Type 0) (xs : List X) (k : ℕ) (x : X) → All P xs → slice_get xs k ≡ Some x → P x
all_at {X} P xs k x all is = subst P (get_or_from_slice_get xs k x x is) (all k x (slice_get_within xs k x is))

-- a conversation with a journal, and what is known of its caller in the end: how it ended, and what it was told
abbrev pub Noted : {A D : Type 0} → DoorFacts D → ℕ → D → D → SeatContent A → SeatContent A → Result (Unit {0}) CallFault × ℕ → Type 0
Noted facts first p q start last e = WasNoted facts first p q start last e.1 e.0

noted_number : {A D : Type 0} (facts : DoorFacts D) (first : ℕ) → KeepsNumber (λ (p q : D) (start last : SeatContent A) (e : Result (Unit {0}) CallFault × ℕ). Noted facts first p q start last e)
noted_number facts first p q start last e was = (call_seen facts p q start last was.edits was.answered e.0 was.held).0

-- the seats of callers that were lent, with the journal's
pub backs_noted : {A D X : Type 0} (facts : DoorFacts D) (first : ℕ) (door : X → D) (seat : X → SeatContent A) (end : X → Result (Unit {0}) CallFault) (told : X → ℕ) (old lent new : List X) (backs : List (SeatContent A)) → lent ≡ old → length new ≡ length lent
    → Leaves (λ p q start last e. Noted facts first p q start last e) door seat (λ x. (end x, told x)) lent new → AreNumbered (map seat old) → backs ≡ map seat new → AreNumbered backs × (length backs ≡ length old)
backs_noted facts first door seat end told old lent new backs is same held are back =
    back_numbered (λ p q start last e. Noted facts first p q start last e) (noted_number facts first) door seat (λ x. (end x, told x)) old lent new backs is same held are back

-- the closed desk shows all conversations, and the journal has what their callers were told
notes_all : {A D X : Type 0} (facts : DoorFacts D) (first upto : ℕ) (door : X → D) (seat : X → SeatContent A) (end : X → Result (Unit {0}) CallFault) (told : X → ℕ) (old new : List X) (log : List (Entry A)) → length new ≡ length old
    → Leaves (λ p q start last e. Noted facts first p q start last e) door seat (λ x. (end x, told x)) old new → IsLegal log → All (IsSettled log) (map seat new) → All (λ (e : Entry A). e.seat < length old) log → All (λ (t : ℕ). t ≤ upto) (map told new)
    → NotesAll facts first (map door old) (map door new) (map seat old) (map end new) log upto
notes_all {A} {D} {X} facts first upto door seat end told old new log same held legal settled nobody covered = record {
  legal = all.legal;
  back = all.back;
  many = length-map new end ∙ same ∙ sym (length-map old door);
  each = λ k p q start e is is' at ended.
      let found = told_at end told new k e ended in
      let one = all.each k p q start (e, found.0) is is' at found.1 in
      record { last = one.0; told = found.0; was = one.1; settled = one.2; covered = all_at (λ (t : ℕ). t ≤ upto) (map told new) k found.0 covered found.2 };
  no_others = all.no_others;
}
  where
    held_in : D → D → SeatContent A → Result (Unit {0}) CallFault × ℕ → Type 0
    held_in p q start e = (last : SeatContent A) × Noted facts first p q start last e × IsSettled log last

    all : AreHeldIn held_in (map door old) (map door new) (map seat old) (map (λ x. (end x, told x)) new) log
    all = holds_all (λ p q start last e. Noted facts first p q start last e) held_in door seat (λ x. (end x, told x)) old new log (λ p q start last e was is. (last, was, is)) same held legal settled nobody

-- the journal that is closed, once the desk is: the lines of a beginning of the one history
pub file_of : {A : Type 0} (kept : Option (List ℕ) → Type 0) (head : Option (List ℕ)) (first : ℕ) (own : SeatContent A) (journal : JournalContent) (file : Option (List ℕ)) (log : List (Entry A)) → file ≡ journal.bytes → HasBeginning head first own.front journal
    → HasSynced kept head first own.front journal.upto → IsSettled log own → IsFileOf kept head first file log journal
file_of kept head first own journal file log same has synced settled = record {
  bytes = sym same;
  is = record { front = own.front; begins = settled.begins; has = has };
  synced = synced_on kept head first journal.upto own.front log (upto_in head own.front journal journal.fault has.lines) settled.begins synced;
}

-- everything of a desk whose callers were lent
pub notes_into : {A D X : Type 0} (n : ℕ) (facts : DoorFacts D) (kept : Option (List ℕ) → Type 0) (head : Option (List ℕ)) (first : ℕ) (door : X → D) (seat : X → SeatContent A) (end : X → Result (Unit {0}) CallFault) (told : X → ℕ) (old lent new : List X) (doors' : List D)
    (backs seats : List (SeatContent A)) (ends : List (Result (Unit {0}) CallFault)) (tolds : List ℕ) (own : SeatContent A) (journal : JournalContent) (file : Option (List ℕ)) (log : List (Entry A)) → lent ≡ old → length new ≡ length lent → length old + 1 ≡ n
    → Leaves (λ p q start last e. Noted facts first p q start last e) door seat (λ x. (end x, told x)) lent new → AreNumbered (map seat old) → doors' ≡ map door new → backs ≡ map seat new → ends ≡ map end new → tolds ≡ map told new
    → seats ≡ backs ++ own ∷ [] → (own.number ≡ length old) × (own.made ≡ 0) → All (λ (t : ℕ). t ≤ journal.upto) tolds → HasBeginning head first own.front journal → HasSynced kept head first own.front journal.upto → file ≡ journal.bytes
    → IsLegal log → All (IsSettled log) seats → length log ≡ made_by seats → NotesInto facts kept head first (map door old) doors' (map seat old) ends file log
notes_into {A} {D} {X} n facts kept head first door seat end told old lent new doors' backs seats ends tolds own journal file log is same long held are returned back ended telling with own_is covered has synced bytes legal settled count = record {
  journal = journal;
  is = file_of kept head first own journal file log bytes has synced own_settled;
  all = held_lent (λ p q start e. IsNotedIn facts first log journal.upto p q start e) door seat old lent (map door new) doors' (map end new) ends log is returned ended
      (notes_all facts first journal.upto door seat end told lent new log same held legal settled_seats nobody (subst (λ (l : List ℕ). All (λ (t : ℕ). t ≤ journal.upto) l) telling covered));
}
  where
    backs_are : AreNumbered backs × (length backs ≡ length old)
    backs_are = backs_noted facts first door seat end told old lent new backs is same held are back

    settled' : All (IsSettled log) (backs ++ own ∷ [])
    settled' = subst (λ (l : List (SeatContent A)). All (IsSettled log) l) with settled

    own_settled : IsSettled log own
    own_settled = all_last (IsSettled log) backs own settled'

    settled_seats : All (IsSettled log) (map seat new)
    settled_seats = subst (λ (l : List (SeatContent A)). All (IsSettled log) l) back (all_front (IsSettled log) backs own settled')

    whole : IsWhole n (backs ++ own ∷ [])
    whole = whole_with n backs own backs_are.0 (own_is.0 ∙ sym backs_are.1) (omega (arith, backs_are.1, long))

    below : All (λ (e : Entry A). e.seat < length old + 1) log
    below = subst (λ (m : ℕ). All (λ (e : Entry A). e.seat < m) log) (sym long) (nobody_else n log (backs ++ own ∷ []) whole settled' (count ∙ ap (λ (l : List (SeatContent A)). made_by l) with))

    none : entries_of (length old) log ≡ 0
    none = ap (λ (k : ℕ). entries_of k log) (sym own_is.0) ∙ own_settled.exact ∙ own_is.1

    nobody : All (λ (e : Entry A). e.seat < length lent) log
    nobody = subst (λ (m : ℕ). All (λ (e : Entry A). e.seat < m) log) (ap (λ (l : List X). length l) (sym is)) (sharper (length old) log below none)

-- ---- on a movie

-- the edits that were answered are among the journal's
noted_upto : {A D : Type 0} (facts : DoorFacts D) (log : List (Entry A)) (upto : ℕ) (p q : D) (start last : SeatContent A) (told : ℕ) (e : Result (Unit {0}) CallFault) (was : WasNoted facts 2 p q start last told e) → IsSettled log last → told ≤ upto → 2 ≤ upto → HasOwnIn start 2
    → start.made + length was.answered ≤ entries_of start.number (take upto log)
noted_upto {A} facts log upto p q start last told e was settled covered low own = elim was.noted [
  | inl none ↦ omega (arith, ap (λ l. length l) none, early, grown)
  | inr noted ↦ omega (arith, noted own, later, on, named)
]
  where
    seen : (last.number ≡ start.number) × IsPrefix start.front last.front
    seen = call_seen facts p q start last was.edits was.answered e was.held

    early : start.made ≤ entries_of start.number (take upto start.front)
    early = own_more start 2 upto low own

    grown : entries_of start.number (take upto start.front) ≤ entries_of start.number (take upto log)
    grown = own_on start.number upto start.front log (prefix_trans start.front last.front log seen.1 settled.begins)

    later : entries_of last.number (take told last.front) ≤ entries_of last.number (take upto last.front)
    later = entries_of-prefix last.number (take told last.front) (take upto last.front) (take_more told upto last.front covered)

    on : entries_of last.number (take upto last.front) ≤ entries_of last.number (take upto log)
    on = own_on last.number upto last.front log settled.begins

    named : entries_of last.number (take upto log) ≡ entries_of start.number (take upto log)
    named = ap (λ (n : ℕ). entries_of n (take upto log)) seen.0

noted_begins : {A D : Type 0} (facts : DoorFacts D) (log : List (Entry A)) (upto : ℕ) (p q : D) (start : SeatContent A) (e : Result (Unit {0}) CallFault) → IsNotedIn facts 2 log upto p q start e → IsPrefix start.front log
noted_begins facts log upto p q start e held = prefix_trans start.front held.last.front log (call_seen facts p q start held.last held.was.edits held.was.answered e held.was.held).1 held.settled.begins

noted_seat : {A D : Type 0} (facts : DoorFacts D) (log : List (Entry A)) (upto k : ℕ) (p q : D) (start : SeatContent A) (e : Result (Unit {0}) CallFault) → 2 ≤ upto → IsNotedIn facts 2 log upto p q start e → start.number ≡ k → HasBegun k start
    → IsPrefix (take 2 log) start.front → IsBlankZone start.zone → IsNotedSeatOf facts log upto k p q e
noted_seat {A} facts log upto k p q start e low held number made begins blank =
    let was = held.was in
    let shown = call_in_history facts p q start held.last was.edits was.answered e log was.held made.1 held.settled in
    record {
      start = start;
      last = held.last;
      edits = was.edits;
      answered = was.answered;
      number_is = number;
      made = made.0;
      begins = begins;
      zone = blank;
      held = was.held;
      shows = shown.0;
      noted = subst (λ (n : ℕ). start.made + length was.answered ≤ entries_of n (take upto log)) number (noted_upto facts log upto p q start held.last held.told e was held.settled held.covered low made.2);
      not_foreign = shown.1;
    }

pub noted_desk : {A D : Type 0} (facts : DoorFacts D) (kept : Option (List ℕ) → Type 0) (head : Option (List ℕ)) (movie : MovieContent) (doors doors' : List D) (seats : List (SeatContent A)) (ends : List (Result (Unit {0}) CallFault)) (file : Option (List ℕ))
    (log : List (Entry A)) → length seats ≡ length doors → IsNotedStart movie seats → NotesInto facts kept head 2 doors doors' seats ends file log → IsNotedDesk facts kept head movie doors doors' ends file log
noted_desk {A} {D} facts kept head movie doors doors' seats ends file log long start into = record {
  journal = into.journal;
  is = into.is;
  desk = history_of (λ p q s e. IsNotedIn facts 2 log into.journal.upto p q s e) (λ k p q e. IsNotedSeatOf facts log into.journal.upto k p q e) movie doors doors' seats ends log long start.has start.numbers start.others start.zones
      (λ p q s e held. noted_begins facts log into.journal.upto p q s e held) (λ k p q s e held number made begins zone. noted_seat facts log into.journal.upto k p q s e low held number made begins zone) into.all;
}
  where
    low : 2 ≤ into.journal.upto
    low = from_in head 2 into.is.is.front into.journal into.is.is.has

-- the callers were these seats with these doors, and the journal begins so
pub into_as : {A D : Type 0} (facts : DoorFacts D) (kept : Option (List ℕ) → Type 0) (head head' : Option (List ℕ)) (first : ℕ) (doors was doors' : List D) (seats starts : List (SeatContent A)) (ends : List (Result (Unit {0}) CallFault)) (file : Option (List ℕ)) (log : List (Entry A))
    → head' ≡ head → first ≡ 2 → was ≡ doors → starts ≡ seats → NotesInto facts kept head first was doors' starts ends file log → NotesInto facts kept head' 2 doors doors' seats ends file log
into_as {A} {D} facts kept head head' first doors was doors' seats starts ends file log heads two same same' into =
    subst (λ (h : Option (List ℕ)). NotesInto facts kept h 2 doors doors' seats ends file log) (sym heads)
    (subst (λ (n : ℕ). NotesInto facts kept head n doors doors' seats ends file log) two
    (subst (λ (l : List (SeatContent A)). NotesInto facts kept head first doors doors' l ends file log) same'
    (subst (λ (l : List D). NotesInto facts kept head first l doors' starts ends file log) same into)))

-- its head is that of the movie
pub desk_noted : {A D : Type 0} (facts : DoorFacts D) (kept : Option (List ℕ) → Type 0) (head : Option (List ℕ)) (movie : MovieContent) (doors doors' : List D) (ends : List (Result (Unit {0}) CallFault)) (file file' : Option (List ℕ)) (log : List (Entry A))
    → Appends file head (head_text movie) → IsNotedDesk facts kept head movie doors doors' ends file' log → IsNotedDeskHistory facts kept movie doors doors' ends file file' log
desk_noted facts kept head movie doors doors' ends file file' log out is = record { journal = is.journal; has = record { head = head; head_is = out; is = is.is }; desk = is.desk }

-- ---- the journal's beginning

-- a blank journal whose first line comes after two entries is one of a longer history
pub blank_seen : (entries : ℕ) (journal : JournalContent) → 2 ≤ entries → IsBlankOn 2 journal → IsBlankOn entries journal
blank_seen entries journal more is = record { whole = is.whole; blank = is.blank; reached = omega (arith, more, is.reached) }

-- and of the history that the first seat was shown
pub blank_shown : {A : Type 0} (old : List (SeatContent A)) (first first' : SeatContent A) (others : List (SeatContent A)) (journal : JournalContent) → old ≡ first ∷ others → KeepsZone first first' → ((d : SeatContent A) → IsBlankOn (length (get_or old 0 d).front) journal)
    → IsBlankOn (length first'.front) journal
blank_shown {A} old first first' others journal is kept blank =
    let was : IsBlankOn (length first.front) journal = subst (λ (l : List (SeatContent A)). IsBlankOn (length (get_or l 0 first).front) journal) is (blank first) in
    record {
      whole = was.whole;
      blank = was.blank;
      reached = omega (arith, was.reached, ap (λ (l : List (Entry A)). length l) kept.seen.begins.1, length-append first.front kept.seen.begins.0);
    }

-- one that was begun after two entries is blank
pub begun_blank : (journal : JournalContent) → journal.first ≡ 2 → journal.upto ≡ 2 → journal.fault ≡ None → IsBlankOn 2 journal
begun_blank journal first upto whole = record { whole = whole; blank = upto ∙ sym first; reached = omega (arith, first) }

-- why no conversation began
pub unmade_noted : (movie : MovieContent) (file : Option (List ℕ)) (fault : RunFault) (end : DeskFault) → (fault ≡ Memory) ⊎ (fault ≡ NoPlace) → end ≡ failed.Tool (Run fault) → IsNoNotedBeginning movie file file (Err end)
unmade_noted movie file fault end (inl memory) is = subst (λ (f : DeskFault). IsNoNotedBeginning movie file file (Err f)) (sym (is ∙ ap (λ (r : RunFault). failed.Tool (Run r)) memory)) (inl refl)
unmade_noted movie file fault end (inr place) is = subst (λ (f : DeskFault). IsNoNotedBeginning movie file file (Err f)) (sym (is ∙ ap (λ (r : RunFault). failed.Tool (Run r)) place)) refl

-- memory was refused once the journal had its head
pub head_only : (movie : MovieContent) (file file' : Option (List ℕ)) (end : DeskFault) → Appends file file' (head_text movie) → end ≡ failed.Tool (Run Memory) → IsNoNotedBeginning movie file file' (Err end)
head_only movie file file' end out is = subst (λ (f : DeskFault). IsNoNotedBeginning movie file file' (Err f)) (sym is) (inr out)

-- ---- the end

-- a seat's conversation ended well
pub call_well : (number : ℕ) (ends : List (Result (Unit {0}) CallFault)) (k : ℕ) (d : Result (Unit {0}) CallFault) (u : Unit {0}) → k < length ends → get_or ends k d ≡ Ok u
    → first_call_fault number (drop k ends) ≡ first_call_fault (number + 1) (drop (k + 1) ends)
call_well number ends k d u low is =
    at_drop_more (λ (l : List (Result (Unit {0}) CallFault)). first_call_fault number l) ends k d low ∙ ap (λ (e : Result (Unit {0}) CallFault). first_call_fault number (e ∷ drop (k + 1) ends)) is

-- a seat's conversation ended with a fault
pub call_fault_here : (number : ℕ) (ends : List (Result (Unit {0}) CallFault)) (k : ℕ) (d : Result (Unit {0}) CallFault) (fault : CallFault) → k < length ends → get_or ends k d ≡ Err fault
    → first_call_fault number (drop k ends) ≡ first_call_fault number (Err fault ∷ [])
call_fault_here number ends k d fault low is =
    at_drop_more (λ (l : List (Result (Unit {0}) CallFault)). first_call_fault number l) ends k d low
    ∙ ap (λ (e : Result (Unit {0}) CallFault). first_call_fault number (e ∷ drop (k + 1) ends)) is ∙ either fault
  where
    either : (f : CallFault) → first_call_fault number (Err f ∷ drop (k + 1) ends) ≡ first_call_fault number (Err f ∷ [])
    either (call.Seat f) = refl
    either (call.Journal f) = refl

-- all ended well
pub call_well_all : (number : ℕ) (ends : List (Result (Unit {0}) CallFault)) (k : ℕ) → length ends ≤ k → first_call_fault number (drop k ends) ≡ Ok tt
call_well_all number ends k le = at_drop_all (λ (l : List (Result (Unit {0}) CallFault)). first_call_fault number l) ends k le

-- no conversation began
pub noted_not_begun : {A D : Type 0} (facts : DoorFacts D) (kept : Option (List ℕ) → Type 0) (doors doors' : List D) (movie : MovieContent) (file file' held output output' : Option (List ℕ)) (result : Result (Unit {0}) DeskFault) → IsNoNotedBeginning movie file file' result
    → held ≡ file' → doors' ≡ doors → output' ≡ output → IsNotedDeskOn A facts kept doors doors' movie file held output output' false result
noted_not_begun facts kept doors doors' movie file file' held output output' result why back same unwritten = inl (
  refl,
  subst (λ (f : Option (List ℕ)). IsNoNotedBeginning movie file f result) (sym back) why,
  (same, subst (λ (o : Option (List ℕ)). Keeps output o) (sym unwritten) (Keeps-refl output)),
)

-- the movie that is reported is that of the history
pub noted_answer_as : {A D : Type 0} (facts : DoorFacts D) (kept : Option (List ℕ) → Type 0) (doors doors' : List D) (movie told : MovieContent) (history : List (Entry A)) (ends : List (Result (Unit {0}) CallFault)) (file file' output output' : Option (List ℕ))
    (result : Result (Unit {0}) DeskFault) → IsNotedDeskHistory facts kept movie doors doors' ends file file' history → told ≡ movie_of history → NotedDeskEnds told ends output output' result
    → IsNotedDeskOn A facts kept doors doors' movie file file' output output' true result
noted_answer_as facts kept doors doors' movie told history ends file file' output output' result held same end = inr (refl, history, ends, held, subst (λ (m : MovieContent). NotedDeskEnds m ends output output' result) same end)

pub noted_unread : {A D : Type 0} (facts : DoorFacts D) (kept : Option (List ℕ) → Type 0) (doors : List D) (file file' cart cart' movie movie' output : Option (List ℕ)) (fault : ToolFault) → ReadsMovie cart cart' movie movie' (Err fault) → file' ≡ file
    → IsNotedDeskRun A facts kept doors doors file file' cart cart' movie movie' output output false (Err (failed.Tool fault))
noted_unread facts kept doors file file' cart cart' movie movie' output fault (inl (why, is, stops)) same = inl (why, ap (λ f. Err (failed.Tool f)) is, stops, (refl, same, (refl, Keeps-refl output)))
noted_unread facts kept doors file file' cart cart' movie movie' output fault (inr (image, said, whole, whole', (why, is, wrong))) same =
    inr (image, said, whole, whole', inl (why, ap (λ f. Err (failed.Tool f)) is, wrong, (refl, same, (refl, Keeps-refl output))))

pub noted_read : {A D : Type 0} (facts : DoorFacts D) (kept : Option (List ℕ) → Type 0) (doors doors' : List D) (content : MovieContent) (file file' cart cart' movie movie' output output' : Option (List ℕ)) (begun : Bool) (result : Result (Unit {0}) DeskFault)
    → ReadsMovie cart cart' movie movie' (Ok content) → IsNotedDeskOn A facts kept doors doors' content file file' output output' begun result → IsNotedDeskRun A facts kept doors doors' file file' cart cart' movie movie' output output' begun result
noted_read facts kept doors doors' content file file' cart cart' movie movie' output output' begun result (image, said, whole, whole', is) on = inr (image, said, whole, whole', inr (content, is, on))
