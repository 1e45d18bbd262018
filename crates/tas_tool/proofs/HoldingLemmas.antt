-- A desk's seats from its opening to its end.
use Rattle.std.proofs.Common.{◌≡◌, ℕ, zero, suc, ◌+◌, ◌<◌, ◌≤◌, ◌==◌, Bool, true, false, cond, List, [], ◌∷◌, ◌++◌, length, take, map, set, get_or, Option, Some, Result, Ok, Err, ◌⊎◌, inl, inr, refl, sym, ap, subst, ◌∙◌, arith}
use Rattle.std.specs.Prelude.{All, count_by, slice_get, Vec}
use Rattle.std.proofs.lemmas.Bool.{cases_lt}
use Rattle.std.proofs.lemmas.Bool.Decides.{nat_tests}
use Rattle.std.proofs.lemmas.List.{append-nil, get_or-set_same, get_or-set_other, take-append-le, length-append, length-map}
use Rattle.std.proofs.lemmas.Option.{same_Some, slice_get-get_or, slice_get_within, get_or_from_slice_get}
use mathlib.Core.List.{IsPrefix}
use Rattle.logbook.specs.Pages.{Book}
use Rattle.tas_movie.specs.Content.{MovieContent}
use Rattle.tas_published.specs.declared.entry.Entry.{Entry}
use Rattle.tas_published.specs.History.{movie_of, entries_of, IsLegal}
use Rattle.tas_published.specs.Strokes.{edits_in}
use Rattle.tas_published.proofs.PrefixLemmas.{prefix_trans}
use Rattle.tas_desk.specs.Seats.{SeatContent, seat_of, HasSeen, KeepsZone, IsWhole, IsSettled}
use Rattle.tas_desk.specs.Zones.{ZoneContent, blank_zone}
use Rattle.tas_desk.specs.Closing.{made_by}
use Rattle.tas_desk.proofs.SeatLemmas.{count_by-cons, entries_of-prefix, had_by, had_by-le, looked_twice, none_above}
use Rattle.tas_engines.specs.declared.fault.RunFault.{RunFault}
use Rattle.tas_engines.specs.declared.fault.RunFault.TheVariants.{Write, Size, Text, NoFrame, Range, Halted, HaltedFrame, Script, Place, Long, Names as NoNames, NoPlace, NoEntry, Foreign, Memory}
use Rattle.tas_engines.specs.declared.fault.SeatFault.{SeatFault}
use Rattle.tas_seat.specs.Lines.{DoorFacts, WasHeld}
use Rattle.tas_tool.specs.Desks.{edits_before, IsBlankZone, IsSeatOf, IsHistoryOf, IsDeskHistory}
use Rattle.tas_tool.specs.Inside.TwoEdits.{HoldsMovie, IsMakingFault}
use Rattle.tas_tool.specs.Inside.Holding.{AreNumbered, HaveMadeNone, HaveBlankZones, AreFresh, HaveMovie, IsUnmade, IsHeldIn, AreHeldIn, HoldsAll, HasRoom}
use Rattle.tas_seat.proofs.HeldLemmas.{held_seen, held_in_history}

-- ---- lists

-- a list that was lent and written back
pub whole_back : {X : Type 0} (xs rest out : List X) (n : ℕ) → n ≡ length xs → out ≡ take n (xs ++ rest) → out ≡ xs
whole_back {X} xs rest out n same is = is ∙ ap (λ (k : ℕ). take k (xs ++ rest)) same ∙ front xs rest
  where
    front : (ys zs : List X) → take (length ys) (ys ++ zs) ≡ ys
    front [] zs = refl
    front (y ∷ ys) zs = ap (λ (l : List X). y ∷ l) (front ys zs)

pub take_prefix : {X : Type 0} (n : ℕ) (xs ys : List X) → IsPrefix xs ys → n ≤ length xs → take n ys ≡ take n xs
take_prefix {X} n xs ys p le = ap (λ (l : List X). take n l) (sym p.1) ∙ take-append-le n xs p.0 le

prefix_longer : {X : Type 0} (xs ys : List X) → IsPrefix xs ys → length xs ≤ length ys
prefix_longer {X} xs ys p = omega (arith, length-append xs p.0, ap (λ (l : List X). length l) p.1)

begin_of : {X : Type 0} (n : ℕ) (xs : List X) → IsPrefix (take n xs) xs
begin_of zero xs = (xs, refl)
begin_of (suc n) [] = ([], refl)
begin_of {X} (suc n) (x ∷ xs) = let p = begin_of n xs in (p.0, ap (λ (l : List X). x ∷ l) p.1)

-- one more of a list's items was changed
pub set_each : {X : Type 0} (P : ℕ → X → X → Type 0) (xs : List X) (i : ℕ) (y : X) → i < length xs → ((k : ℕ) (d : X) → k < i → P k d (get_or xs k d)) → ((d : X) → P i d y)
    → (k : ℕ) (d : X) → k < i + 1 → P k d (get_or (set xs i y) k d)
set_each {X} P xs i y low all one k d lt = elim (cases_lt k i) [
  | inl h ↦ subst (λ (x : X). P k d x) (sym (get_or-set_other xs i k y d (λ e. absurd (omega (arith, h, e))))) (all k d h)
  | inr h ↦ let here : i ≡ k = omega (arith, h, lt) in
      subst (λ (j : ℕ). P j d (get_or (set xs i y) j d)) here (subst (λ (x : X). P i d x) (sym (get_or-set_same xs i y d low)) (one d))
]

pub set_past : {X : Type 0} (xs ys : List X) (i : ℕ) (y : X) → ((k : ℕ) (d : X) → i ≤ k → get_or xs k d ≡ get_or ys k d) → (k : ℕ) (d : X) → i + 1 ≤ k → get_or (set xs i y) k d ≡ get_or ys k d
set_past xs ys i y rest k d le = get_or-set_other xs i k y d (λ e. absurd (omega (arith, le, e))) ∙ rest k d (omega (arith, le))

-- what stands at a place of a list as long as one that has something there
pub there : {X Y : Type 0} (xs : List X) (ys : List Y) (k : ℕ) (y : Y) → length xs ≡ length ys → slice_get ys k ≡ Some y → (x : X) × (slice_get xs k ≡ Some x)
there [] [] k y same is = absurd (cc is)
there [] (z ∷ ys) k y same is = absurd (omega (arith, same))
there (x ∷ xs) [] k y same is = absurd (omega (arith, same))
there (x ∷ xs) (z ∷ ys) zero y same is = (x, refl)
there (x ∷ xs) (z ∷ ys) (suc k) y same is = there xs ys k y (omega (arith, same)) is

-- what was done to the item at a place
pub done_at : {X : Type 0} (R : X → X → Type 0) (xs ys : List X) → length ys ≡ length xs → ((k : ℕ) (d : X) → k < length xs → R (get_or xs k d) (get_or ys k d))
    → (k : ℕ) (y : X) → slice_get ys k ≡ Some y → (x : X) × (slice_get xs k ≡ Some x) × R x y
done_at {X} R xs ys same done k y is =
    let before = there xs ys k y (sym same) is in
    let was : get_or xs k y ≡ before.0 = get_or_from_slice_get xs k before.0 y before.1 in
    let now : get_or ys k y ≡ y = get_or_from_slice_get ys k y y is in
    (before.0, before.1, subst (λ (v : X). R before.0 v) now (subst (λ (v : X). R v (get_or ys k y)) was (done k y (slice_get_within xs k before.0 before.1))))

-- ---- lists that are moved item by item

-- nothing is left to be moved
pub none_left : {X : Type 0} (got rest all : List X) → length rest ≡ 0 → got ++ rest ≡ all → got ≡ all
none_left got [] all none is = sym (append-nil got) ∙ is
none_left got (x ∷ rest) all none is = absurd (omega (arith, none))

-- nothing was moved yet
pub none_moved : {X Y : Type 0} (f : X → Y) (xs : List X) (rest all : List Y) → length xs ≡ 0 → rest ≡ all → map f xs ++ rest ≡ all
none_moved f [] rest all none is = is
none_moved f (x ∷ xs) rest all none is = absurd (omega (arith, none))

-- one more was moved
pub one_moved : {X Y : Type 0} (f : X → Y) (xs xs' : List X) (x : X) (rest rest' all : List Y) → xs' ≡ xs ++ x ∷ [] → rest ≡ f x ∷ rest' → map f xs ++ rest ≡ all → map f xs' ++ rest' ≡ all
one_moved {X} {Y} f xs xs' x rest rest' all more step is =
    ap (λ (l : List X). map f l ++ rest') more ∙ go xs ∙ ap (λ (l : List Y). map f xs ++ l) (sym step) ∙ is
  where
    go : (ys : List X) → map f (ys ++ x ∷ []) ++ rest' ≡ map f ys ++ f x ∷ rest'
    go [] = refl
    go (y ∷ ys) = ap (λ (l : List Y). f y ∷ l) (go ys)

-- there is room for one more of those that are left
pub room_for_one : {X : Type 0} (got rest all rest' : List X) (x : X) (len cap : ℕ) → got ++ rest ≡ all → rest ≡ x ∷ rest' → len ≡ length got → length all ≤ cap → len < cap
room_for_one {X} got rest all rest' x len cap is step same room =
    omega (arith, length-append got rest, ap (λ (l : List X). length l) is, ap (λ (l : List X). length l) step, same, room)

-- all were moved
pub all_moved : {X Y : Type 0} (f : X → Y) (got rest all : List X) (into : List Y) → into ≡ map f got → length rest ≡ 0 → got ++ rest ≡ all → into ≡ map f all
all_moved {X} f got rest all into is none whole = is ∙ ap (λ (l : List X). map f l) (none_left got rest all none whole)

-- ---- numbers

-- numbered from a number on
abbrev AreFrom : {A : Type 0} → ℕ → List (SeatContent A) → Type 0
AreFrom {A} m seats = (k : ℕ) (seat : SeatContent A) → slice_get seats k ≡ Some seat → seat.number ≡ m + k

rest_from : {A : Type 0} (m : ℕ) (s : SeatContent A) (ss : List (SeatContent A)) → AreFrom m (s ∷ ss) → AreFrom (m + 1) ss
rest_from m s ss are k seat is = let e = are (suc k) seat is in omega (arith, e)

abbrev one_if : Bool → ℕ
one_if b = cond b 1 0

none_before : {A : Type 0} (m j : ℕ) (ss : List (SeatContent A)) → AreFrom m ss → j < m → count_by (λ (s : SeatContent A). s.number == j) ss ≡ 0
none_before m j [] are lt = refl
none_before {A} m j (s ∷ ss) are lt =
    let rest = none_before (m + 1) j ss (rest_from m s ss are) (omega (arith, lt)) in
    let c = count_by-cons (λ (t : SeatContent A). t.number == j) s ss in
    let here = are zero s refl in
    let no : (s.number == j) ≡ false = grind (arith, nat_tests) in
    let none : one_if (s.number == j) ≡ 0 = ap one_if no in
    omega (arith, c, rest, none)

at_most_one : (b : Bool) → one_if b ≤ 1
at_most_one true = omega arith
at_most_one false = omega arith

once_from : {A : Type 0} (m j : ℕ) (ss : List (SeatContent A)) → AreFrom m ss → count_by (λ (s : SeatContent A). s.number == j) ss ≤ 1
once_from m j [] are = omega arith
once_from {A} m j (s ∷ ss) are =
    let c = count_by-cons (λ (t : SeatContent A). t.number == j) s ss in
    let tail = rest_from m s ss are in
    let here = are zero s refl in
    elim (cases_lt m j) [
      | inl h ↦ let no : (s.number == j) ≡ false = grind (arith, nat_tests) in
          let none : one_if (s.number == j) ≡ 0 = ap one_if no in
          omega (arith, c, none, once_from (m + 1) j ss tail)
      | inr h ↦ omega (arith, c, at_most_one (s.number == j), none_before (m + 1) j ss tail (omega (arith, h)))
    ]

-- seats with the numbers from 0 on are all of their desk's
pub whole_seats : {A : Type 0} (n : ℕ) (ss : List (SeatContent A)) → AreNumbered ss → length ss ≡ n → IsWhole n ss
whole_seats {A} n ss are long = record {
  all = long;
  below = λ k d low. let e = are k (get_or ss k d) (slice_get-get_or ss k d low) in omega (arith, e, low, long);
  once = λ k. once_from 0 k ss (λ j seat is. are j seat is ∙ omega arith);
}

-- ---- the history

eq_sym : (a b : ℕ) → (a == b) ≡ (b == a)
eq_sym a b = grind (arith)

had_by-cons : {A : Type 0} (e : Entry A) (log : List (Entry A)) (ss : List (SeatContent A)) → had_by (e ∷ log) ss ≡ count_by (λ (s : SeatContent A). s.number == e.seat) ss + had_by log ss
had_by-cons {A} e log [] = refl
had_by-cons {A} e log (s ∷ ss) =
    let here = count_by-cons (λ (x : Entry A). x.seat == s.number) e log in
    let there = count_by-cons (λ (t : SeatContent A). t.number == e.seat) s ss in
    let same : one_if (e.seat == s.number) ≡ one_if (s.number == e.seat) = ap one_if (eq_sym e.seat s.number) in
    let rest = had_by-cons e log ss in
    omega (arith, here, there, same, rest)

made_had : {A : Type 0} (log : List (Entry A)) (ss : List (SeatContent A)) → All (IsSettled log) ss → made_by ss ≡ had_by log ss
made_had log [] settled = refl
made_had {A} log (s ∷ ss) settled =
    let one : IsSettled log s = settled zero s (omega arith) in
    let rest = made_had log ss (λ k d low. settled (suc k) d (omega (arith, low))) in
    omega (arith, one.exact, rest)

had_named : {A : Type 0} (n : ℕ) (log : List (Entry A)) (ss : List (SeatContent A)) → IsWhole n ss → length log ≤ had_by log ss → All (λ (e : Entry A). e.seat < n) log
had_named n [] ss whole le k d low = absurd (omega (arith, low))
had_named {A} n (e ∷ log) ss whole le zero d low =
    let h = had_by-cons e log ss in
    let r = had_by-le log ss whole.once in
    elim (cases_lt e.seat n) [ inl lt ↦ lt | inr above ↦ absurd (omega (arith, le, h, r, none_above n e.seat ss whole.below above)) ]
had_named {A} n (e ∷ log) ss whole le (suc k) d low =
    let h = had_by-cons e log ss in
    let o = whole.once e.seat in
    had_named n log ss whole (omega (arith, le, h, o)) k d (omega (arith, low))

-- nobody but these seats has entries
pub nobody_else : {A : Type 0} (n : ℕ) (log : List (Entry A)) (ss : List (SeatContent A)) → IsWhole n ss → All (IsSettled log) ss → length log ≡ made_by ss → All (λ (e : Entry A). e.seat < n) log
nobody_else n log ss whole settled count = had_named n log ss whole (omega (arith, count, made_had log ss settled))

-- ---- conversations

-- what a caller's conversation leaves of the caller, as `Held` says
abbrev pub Leaves : {A D E X : Type 0} → (D → D → SeatContent A → SeatContent A → E → Type 0) → (X → D) → (X → SeatContent A) → (X → E) → List X → List X → Type 0
Leaves {X = X} Held door seat end old new = (k : ℕ) (d : X) → k < length old → Held (door (get_or old k d)) (door (get_or new k d)) (seat (get_or old k d)) (seat (get_or new k d)) (end (get_or new k d))

-- each caller's conversation was held, by index and by what stands there
pub each_held : {A D E X : Type 0} (Held : D → D → SeatContent A → SeatContent A → E → Type 0) (door : X → D) (seat : X → SeatContent A) (end : X → E) (old new : List X) → length new ≡ length old → Leaves Held door seat end old new
    → (k : ℕ) (p q : D) (start last : SeatContent A) (e : E) → slice_get (map door old) k ≡ Some p → slice_get (map door new) k ≡ Some q → slice_get (map seat old) k ≡ Some start → slice_get (map seat new) k ≡ Some last
    → slice_get (map end new) k ≡ Some e → Held p q start last e
each_held Held door seat end [] new same held k p q start last e is is' at at' ended = absurd (cc is)
each_held Held door seat end (x ∷ old) [] same held k p q start last e is is' at at' ended = absurd (omega (arith, same))
each_held {A} {D} {E} Held door seat end (x ∷ old) (y ∷ new) same held zero p q start last e is is' at at' ended =
    let here : Held (door x) (door y) (seat x) (seat y) (end y) = held 0 x (omega arith) in
    subst (λ (v : D). Held v q start last e) (same_Some (door x) p is)
    (subst (λ (v : D). Held (door x) v start last e) (same_Some (door y) q is')
    (subst (λ (v : SeatContent A). Held (door x) (door y) v last e) (same_Some (seat x) start at)
    (subst (λ (v : SeatContent A). Held (door x) (door y) (seat x) v e) (same_Some (seat y) last at')
    (subst (λ (v : E). Held (door x) (door y) (seat x) (seat y) v) (same_Some (end y) e ended) here))))
each_held {A} {D} {E} {X} Held door seat end (x ∷ old) (y ∷ new) same held (suc k) p q start last e is is' at at' ended =
    each_held Held door seat end old new (omega (arith, same)) (λ (j : ℕ) (d : X) lt. held (suc j) d (omega (arith, lt))) k p q start last e is is' at at' ended

-- what is done of a conversation's seat
abbrev pub KeepsNumber : {A D E : Type 0} → (D → D → SeatContent A → SeatContent A → E → Type 0) → Type 0
KeepsNumber {A} {D} {E} Held = (p q : D) (start last : SeatContent A) (e : E) → Held p q start last e → last.number ≡ start.number

-- the seats keep their numbers
pub still_numbered : {A D E X : Type 0} (Held : D → D → SeatContent A → SeatContent A → E → Type 0) (keeps : KeepsNumber Held) (door : X → D) (seat : X → SeatContent A) (end : X → E) (old new : List X) → length new ≡ length old
    → Leaves Held door seat end old new → AreNumbered (map seat old) → AreNumbered (map seat new)
still_numbered {A} {D} {E} {X} Held keeps door seat end old new same held are k last is =
    let before = there (map seat old) (map seat new) k last (length-map old seat ∙ sym same ∙ sym (length-map new seat)) is in
    let p = there (map door old) (map seat new) k last (length-map old door ∙ sym same ∙ sym (length-map new seat)) is in
    let q = there (map door new) (map seat new) k last (length-map new door ∙ sym (length-map new seat)) is in
    let e = there (map end new) (map seat new) k last (length-map new end ∙ sym (length-map new seat)) is in
    let held' = each_held Held door seat end old new same held k p.0 q.0 before.0 last e.0 p.1 q.1 before.1 is e.1 in
    keeps p.0 q.0 before.0 last e.0 held' ∙ are k before.0 before.1

-- the desk that is closed shows all conversations
pub holds_all : {A D E X : Type 0} (Held : D → D → SeatContent A → SeatContent A → E → Type 0) (held_in : D → D → SeatContent A → E → Type 0) (door : X → D) (seat : X → SeatContent A) (end : X → E) (old new : List X) (log : List (Entry A))
    → ((p q : D) (start last : SeatContent A) (e : E) → Held p q start last e → IsSettled log last → held_in p q start e) → length new ≡ length old → Leaves Held door seat end old new → IsLegal log → All (IsSettled log) (map seat new)
    → All (λ (x : Entry A). x.seat < length old) log → AreHeldIn held_in (map door old) (map door new) (map seat old) (map end new) log
holds_all {A} {D} {E} {X} Held held_in door seat end old new log shows same held legal settled nobody = record {
  legal = legal;
  back = length-map new door ∙ same ∙ sym (length-map old door);
  many = length-map new end ∙ same ∙ sym (length-map old door);
  each = λ k p q start e is is' at ended. let last = there (map seat new) (map end new) k e (length-map new seat ∙ sym (length-map new end)) ended in
      shows p q start last.0 e (each_held Held door seat end old new same held k p q start last.0 e is is' at last.1 ended) (settled_at k last.0 last.1);
  no_others = subst (λ (m : ℕ). All (λ (x : Entry A). x.seat < m) log) (sym (length-map old door)) nobody;
}
  where
    settled_at : (k : ℕ) (last : SeatContent A) → slice_get (map seat new) k ≡ Some last → IsSettled log last
    settled_at k last is = subst (IsSettled log) (get_or_from_slice_get (map seat new) k last last is) (settled k last (slice_get_within (map seat new) k last is))

-- ---- the first seat's movie

first_made : {A : Type 0} (first : SeatContent A) (movie : MovieContent) → HoldsMovie first movie → first.number ≡ 0 → entries_of 0 (take 2 first.front) ≡ 2
first_made {A} first movie holds nought = subst (λ (n : ℕ). entries_of n (take 2 first.front) ≡ 2) nought holds.own

-- what a seat had made when its conversation began, and that it had seen as much, in the history's first two entries
abbrev pub HasBegun : {A : Type 0} → ℕ → SeatContent A → Type 0
HasBegun k start = (start.made ≡ edits_before k) × (start.made ≤ entries_of start.number start.front) × (start.made ≤ entries_of start.number (take 2 start.front))

pub begun : {A : Type 0} (movie : MovieContent) (seats : List (SeatContent A)) (k : ℕ) (start : SeatContent A) → HaveMovie movie seats → AreNumbered seats → HaveMadeNone seats → slice_get seats k ≡ Some start → HasBegun k start
begun {A} movie seats zero start has are none is =
    let same : has.first ≡ start = same_Some has.first start (sym has.first_is ∙ is) in
    let mine : HasBegun 0 has.first =
    (has.holds.made, omega (arith, has.holds.made, has.holds.own, entries_of-prefix has.first.number (take 2 has.first.front) has.first.front (begin_of 2 has.first.front)), omega (arith, has.holds.made, has.holds.own)) in
    subst (λ (s : SeatContent A). HasBegun 0 s) same mine
begun movie seats (suc k) start has are none is = let e = none k start is in (e, omega (arith, e), omega (arith, e))

-- a desk that was held on a movie
pub history_of : {A D E : Type 0} (held : D → D → SeatContent A → E → Type 0) (is_seat : ℕ → D → D → E → Type 0) (movie : MovieContent) (doors doors' : List D) (seats : List (SeatContent A)) (ends : List E) (log : List (Entry A)) → length seats ≡ length doors
    → HaveMovie movie seats → AreNumbered seats → HaveMadeNone seats → HaveBlankZones seats → ((p q : D) (start : SeatContent A) (e : E) → held p q start e → IsPrefix start.front log)
    → ((k : ℕ) (p q : D) (start : SeatContent A) (e : E) → held p q start e → start.number ≡ k → HasBegun k start → IsPrefix (take 2 log) start.front → IsBlankZone start.zone → is_seat k p q e)
    → AreHeldIn held doors doors' seats ends log → IsHistoryOf is_seat movie doors doors' ends log
history_of {A} {D} {E} held is_seat movie doors doors' seats ends log long has are none blank begins_in shown all =
    record {
      legal = all.legal;
      long = omega (arith, prefix_longer has.first.front log begins, has.holds.seen);
      first = subst (λ (l : List (Entry A)). entries_of 0 l ≡ 2) (sym same) (first_made has.first movie has.holds (are 0 has.first has.first_is));
      edits = ap (λ (l : List (Entry A)). edits_in l) same ∙ has.holds.edits;
      movie_is = ap movie_of same ∙ has.holds.movie_is;
      back = all.back;
      many = all.many;
      seats = one;
      no_others = all.no_others;
    }
  where
    door0 : (p : D) × (slice_get doors 0 ≡ Some p)
    door0 = there doors seats 0 has.first (sym long) has.first_is

    door0' : (p : D) × (slice_get doors' 0 ≡ Some p)
    door0' = there doors' seats 0 has.first (all.back ∙ sym long) has.first_is

    end0 : (e : E) × (slice_get ends 0 ≡ Some e)
    end0 = there ends seats 0 has.first (all.many ∙ sym long) has.first_is

    begins : IsPrefix has.first.front log
    begins = begins_in door0.0 door0'.0 has.first end0.0 (all.each 0 door0.0 door0'.0 has.first end0.0 door0.1 door0'.1 has.first_is end0.1)

    same : take 2 log ≡ take 2 has.first.front
    same = take_prefix 2 has.first.front log begins has.holds.seen

    one : (k : ℕ) (p q : D) (e : E) → slice_get doors k ≡ Some p → slice_get doors' k ≡ Some q → slice_get ends k ≡ Some e → is_seat k p q e
    one k p q e is is' ended =
        let start = there seats doors k p long is in
        shown k p q start.0 e (all.each k p q start.0 e is is' start.1 ended) (are k start.0 start.1) (begun movie seats k start.0 has are none start.1)
        (subst (λ (t : List (Entry A)). IsPrefix t start.0.front) (sym same) (has.met k start.0 start.1)) (blank k start.0 start.1)

held_begins : {A D : Type 0} (facts : DoorFacts D) (log : List (Entry A)) (p q : D) (start : SeatContent A) (e : Result (Unit {0}) SeatFault) → IsHeldIn facts log p q start e → IsPrefix start.front log
held_begins facts log p q start e held = prefix_trans start.front held.last.front log (held_seen facts p q start held.last e (held.edits, held.held)).1 held.settled.begins

seat_of_held : {A D : Type 0} (facts : DoorFacts D) (log : List (Entry A)) (k : ℕ) (p q : D) (start : SeatContent A) (e : Result (Unit {0}) SeatFault) → IsHeldIn facts log p q start e → start.number ≡ k
    → HasBegun k start → IsPrefix (take 2 log) start.front → IsBlankZone start.zone → IsSeatOf facts log k p q e
seat_of_held facts log k p q start e held number made begins blank =
    let shown = held_in_history facts p q start held.last held.edits e log held.held made.1 held.settled in
    record {
      start = start;
      last = held.last;
      edits = held.edits;
      number_is = number;
      made = made.0;
      begins = begins;
      zone = blank;
      held = held.held;
      shows = shown.0;
      not_foreign = shown.1;
    }

pub desk_history : {A D : Type 0} (facts : DoorFacts D) (movie : MovieContent) (doors doors' : List D) (seats : List (SeatContent A)) (ends : List (Result (Unit {0}) SeatFault)) (log : List (Entry A)) → length seats ≡ length doors
    → HaveMovie movie seats → AreNumbered seats → HaveMadeNone seats → HaveBlankZones seats → HoldsAll facts doors doors' seats ends log → IsDeskHistory facts movie doors doors' ends log
desk_history facts movie doors doors' seats ends log long has are none blank all =
    history_of (λ p q start e. IsHeldIn facts log p q start e) (λ k p q e. IsSeatOf facts log k p q e) movie doors doors' seats ends log long has are none blank (λ p q start e held. held_begins facts log p q start e held)
    (λ k p q start e held number made begins zone. seat_of_held facts log k p q start e held number made begins zone) all

-- ---- a movie that wasn't made

made_first : {A : Type 0} (seats : List (SeatContent A)) (first : SeatContent A) → slice_get seats 0 ≡ Some first → HaveMadeNone seats → made_by seats ≡ first.made
made_first [] first is none = absurd (cc is)
made_first {A} (s ∷ ss) first is none = omega (arith, nothing ss none, ap (λ (t : SeatContent A). t.made) (same_Some s first is))
  where
    nothing : (ts : List (SeatContent A)) → ((k : ℕ) (t : SeatContent A) → slice_get ts k ≡ Some t → t.made ≡ 0) → made_by ts ≡ 0
    nothing [] made = refl
    nothing (t ∷ ts) made = omega (arith, made zero t refl, nothing ts (λ k u is'. made (suc k) u is'))

-- only memory was refused: the closed desk shows that there are no edits but the first seat's
pub unmade_fault : {A : Type 0} (seats : List (SeatContent A)) (log : List (Entry A)) (fault : RunFault) → IsUnmade seats fault → HaveMadeNone seats → All (IsSettled log) seats → length log ≡ made_by seats → (fault ≡ Memory) ⊎ (fault ≡ NoPlace)
unmade_fault {A} seats log fault (first, is, why) none settled count = go fault why
  where
    mine : IsSettled log first
    mine = subst (IsSettled log) (get_or_from_slice_get seats 0 first first is) (settled 0 first (slice_get_within seats 0 first is))

    go : (f : RunFault) → IsMakingFault first f → (f ≡ Memory) ⊎ (f ≡ NoPlace)
    go Memory w = inl refl
    go Foreign w = absurd (omega (arith, w, prefix_longer first.front log mine.begins, count, made_first seats first is none))
    go (Write written) w = absurd w
    go (Size n) w = absurd w
    go (Text error) w = absurd w
    go (NoFrame frame len) w = absurd w
    go (Range from to len) w = absurd w
    go (NoNames row kind) w = absurd w
    go (Halted at opcode) w = absurd w
    go (HaltedFrame frame at opcode) w = absurd w
    go (Script line) w = absurd w
    go (Place line) w = absurd w
    go (Long line) w = absurd w
    go NoPlace w = absurd w
    go NoEntry w = absurd w

-- ---- the first seat and the others

-- seats that were just opened, numbered from 0
pub fresh_numbered : {A : Type 0} (first first' : SeatContent A) (others others' : List (SeatContent A)) → AreFresh (first ∷ others) → first'.number ≡ 0 → length others' ≡ length others
    → ((k : ℕ) (d : SeatContent A) → k < length others → HasSeen (get_or others k d) (get_or others' k d)) → AreNumbered (first' ∷ others') × HaveMadeNone (first' ∷ others')
fresh_numbered {A} first first' others others' fresh nought same seen = (numbers, made)
  where
    at : (k : ℕ) (s : SeatContent A) → slice_get others' k ≡ Some s → (s.number ≡ suc k) × (s.made ≡ 0)
    at k s is =
        let before = done_at (λ (b : SeatContent A) (n : SeatContent A). HasSeen b n) others others' same seen k s is in
        let one : HasSeen before.0 s = before.2 in
        let was = fresh (suc k) before.0 before.1 in
        (one.number ∙ was.0, one.made ∙ was.1)

    numbers : AreNumbered (first' ∷ others')
    numbers zero s is = ap (λ (t : SeatContent A). t.number) (sym (same_Some first' s is)) ∙ nought
    numbers (suc k) s is = (at k s is).0

    made : HaveMadeNone (first' ∷ others')
    made k s is = (at k s is).1

-- seats whose greenzones are still those with which they were opened
pub zones_blank : {A : Type 0} (first first' : SeatContent A) (others others' : List (SeatContent A)) → AreFresh (first ∷ others) → first'.zone ≡ first.zone → length others' ≡ length others
    → ((k : ℕ) (d : SeatContent A) → k < length others → KeepsZone (get_or others k d) (get_or others' k d)) → HaveBlankZones (first' ∷ others')
zones_blank {A} first first' others others' fresh same long kept = at
  where
    still : (was now : SeatContent A) → now.zone ≡ was.zone → IsBlankZone was.zone → IsBlankZone now.zone
    still was now zone blank = subst (λ (z : ZoneContent A). IsBlankZone z) (sym zone) blank

    at : HaveBlankZones (first' ∷ others')
    at zero s is = still first s (ap (λ (t : SeatContent A). t.zone) (sym (same_Some first' s is)) ∙ same) (fresh 0 first refl).3
    at (suc k) s is =
        let before = done_at (λ (b : SeatContent A) (n : SeatContent A). KeepsZone b n) others others' long kept k s is in
        let one : KeepsZone before.0 s = before.2 in
        still before.0 s one.zone (fresh (suc k) before.0 before.1).3

pub all_met : {A : Type 0} (movie : MovieContent) (first first' : SeatContent A) (others others' : List (SeatContent A)) → HoldsMovie first movie → HasSeen first first' → length others' ≡ length others
    → ((k : ℕ) (d : SeatContent A) → k < length others → IsPrefix first.front (get_or others' k d).front) → HaveMovie movie (first' ∷ others')
all_met {A} movie first first' others others' holds seen same met = record {
  first = first';
  first_is = refl;
  holds = record {
    made = seen.made ∙ holds.made;
    seen = omega (arith, holds.seen, prefix_longer first.front first'.front seen.begins);
    own = subst (λ (l : List (Entry A)). entries_of first'.number l ≡ 2) (sym two) (subst (λ (n : ℕ). entries_of n (take 2 first.front) ≡ 2) (sym seen.number) holds.own);
    edits = ap (λ (l : List (Entry A)). edits_in l) two ∙ holds.edits;
    movie_is = ap movie_of two ∙ holds.movie_is;
  };
  met = at;
}
  where
    two : take 2 first'.front ≡ take 2 first.front
    two = take_prefix 2 first.front first'.front seen.begins holds.seen

    begins : IsPrefix (take 2 first'.front) first.front
    begins = subst (λ (l : List (Entry A)). IsPrefix l first.front) (sym two) (begin_of 2 first.front)

    at : (k : ℕ) (s : SeatContent A) → slice_get (first' ∷ others') k ≡ Some s → IsPrefix (take 2 first'.front) s.front
    at zero s is = subst (λ (t : SeatContent A). IsPrefix (take 2 first'.front) t.front) (same_Some first' s is) (begin_of 2 first'.front)
    at (suc k) s is =
        let low : k < length others = omega (arith, slice_get_within others' k s is, same) in
        prefix_trans (take 2 first'.front) first.front s.front begins
        (subst (λ (t : SeatContent A). IsPrefix first.front t.front) (get_or_from_slice_get others' k s s is) (met k s low))

-- seats that have met nobody
pub not_met : {A : Type 0} (seats : List (SeatContent A)) (k : ℕ) (d : SeatContent A) → k < length seats → HasSeen (get_or seats k d) (get_or seats k d)
not_met seats k d lt = record { number = refl; made = refl; begins = ([], append-nil (get_or seats k d).front) }

-- after one more meeting
pub seen_twice : {A : Type 0} (s t u : SeatContent A) → KeepsZone s t → KeepsZone t u → KeepsZone s u
seen_twice s t u one other = looked_twice s t u one other

get_any : {X : Type 0} (xs : List X) (k : ℕ) (d e : X) → k < length xs → get_or xs k d ≡ get_or xs k e
get_any [] k d e low = absurd (omega (arith, low))
get_any (x ∷ xs) zero d e low = refl
get_any (x ∷ xs) (suc k) d e low = get_any xs k d e (omega (arith, low))

-- an item that wasn't changed yet
pub item_before : {X : Type 0} (xs was : List X) (i : ℕ) (x d : X) → i < length xs → ((k : ℕ) (e : X) → i ≤ k → get_or xs k e ≡ get_or was k e) → get_or xs i x ≡ get_or was i d
item_before xs was i x d low rest = get_any xs i x d low ∙ rest i d (omega arith)

-- ---- callers

-- what is reported of a caller whose conversation was held
was_number : {A D : Type 0} (facts : DoorFacts D) → KeepsNumber (λ (p q : D) (start last : SeatContent A) (e : Result (Unit {0}) SeatFault). WasHeld facts p q start last e)
was_number facts p q start last e held = (held_seen facts p q start last e held).0

-- the seats that come back have their numbers
pub back_numbered : {A D E X : Type 0} (Held : D → D → SeatContent A → SeatContent A → E → Type 0) (keeps : KeepsNumber Held) (door : X → D) (seat : X → SeatContent A) (end : X → E) (old lent new : List X) (backs : List (SeatContent A)) → lent ≡ old → length new ≡ length lent
    → Leaves Held door seat end lent new → AreNumbered (map seat old) → backs ≡ map seat new → AreNumbered backs × (length backs ≡ length old)
back_numbered {A} {D} {E} {X} Held keeps door seat end old lent new backs is same held are back =
    let are' : AreNumbered (map seat lent) = subst (λ (l : List X). AreNumbered (map seat l)) (sym is) are in
    let count : length (map seat new) ≡ length old = length-map new seat ∙ same ∙ ap (λ (l : List X). length l) is in (
      subst (λ (l : List (SeatContent A)). AreNumbered l) (sym back) (still_numbered Held keeps door seat end lent new same held are'),
      ap (λ (l : List (SeatContent A)). length l) back ∙ count,
    )

-- they are all of the desk's
pub whole_made : {A D X : Type 0} (n : ℕ) (facts : DoorFacts D) (door : X → D) (seat : X → SeatContent A) (end : X → Result (Unit {0}) SeatFault) (old lent new : List X) (backs : List (SeatContent A)) → lent ≡ old → length new ≡ length lent → length old ≡ n
    → Leaves (λ p q start last e. WasHeld facts p q start last e) door seat end lent new → AreNumbered (map seat old) → backs ≡ map seat new → IsWhole n backs
whole_made {A} {D} {X} n facts door seat end old lent new backs is same long held are back =
    let numbered = back_numbered (λ p q start last e. WasHeld facts p q start last e) (was_number facts) door seat end old lent new backs is same held are back in
    whole_seats n backs numbered.0 (numbered.1 ∙ long)

-- there is room for what comes back of callers that were lent
pub room_lent : {X Y A : Type 0} (n : ℕ) (old lent new back : List X) (items : Vec Y A) → lent ≡ old → length new ≡ length lent → length old ≡ n → back ≡ new → HasRoom n items → HasRoom (length back) items
room_lent {X} n old lent new back items is same long returned room =
    subst (λ (k : ℕ). HasRoom k items) (sym (ap (λ (l : List X). length l) returned ∙ same ∙ ap (λ (l : List X). length l) is ∙ long)) room

-- and for one more
pub room_lent_more : {X Y A : Type 0} (n : ℕ) (old lent new back : List X) (items : Vec Y A) → lent ≡ old → length new ≡ length lent → length old ≡ n → back ≡ new → HasRoom (n + 1) items → HasRoom (length back + 1) items
room_lent_more {X} n old lent new back items is same long returned room =
    subst (λ (k : ℕ). HasRoom (k + 1) items) (sym (ap (λ (l : List X). length l) returned ∙ same ∙ ap (λ (l : List X). length l) is ∙ long)) room

-- what was held of callers that were lent, named otherwise
pub held_lent : {A D E X : Type 0} (held : D → D → SeatContent A → E → Type 0) (door : X → D) (seat : X → SeatContent A) (old lent : List X) (doors doors' : List D) (ends ends' : List E) (log : List (Entry A)) → lent ≡ old → doors' ≡ doors → ends' ≡ ends
    → AreHeldIn held (map door lent) doors (map seat lent) ends log → AreHeldIn held (map door old) doors' (map seat old) ends' log
held_lent {A} {D} {E} {X} held door seat old lent doors doors' ends ends' log is returned ended all =
    subst (λ (l : List D). AreHeldIn held (map door old) l (map seat old) ends' log) (sym returned)
    (subst (λ (l : List E). AreHeldIn held (map door old) doors (map seat old) l log) (sym ended) (subst (λ (l : List X). AreHeldIn held (map door l) doors (map seat l) ends log) is all))

-- and the closed desk shows all conversations
pub holds_made : {A D X : Type 0} (n : ℕ) (facts : DoorFacts D) (door : X → D) (seat : X → SeatContent A) (end : X → Result (Unit {0}) SeatFault) (old lent new : List X) (doors' : List D) (backs : List (SeatContent A)) (ends : List (Result (Unit {0}) SeatFault))
    (log : List (Entry A)) → lent ≡ old → length new ≡ length lent → length old ≡ n → Leaves (λ p q start last e. WasHeld facts p q start last e) door seat end lent new → AreNumbered (map seat old) → doors' ≡ map door new → backs ≡ map seat new → ends ≡ map end new
    → IsLegal log → All (IsSettled log) backs → length log ≡ made_by backs → HoldsAll facts (map door old) doors' (map seat old) ends log
holds_made {A} {D} {X} n facts door seat end old lent new doors' backs ends log is same long held are returned back ended legal settled count =
    let whole : IsWhole n backs = whole_made n facts door seat end old lent new backs is same long held are back in
    let settled' : All (IsSettled log) (map seat new) = subst (λ (l : List (SeatContent A)). All (IsSettled log) l) back settled in
    let nobody : All (λ (x : Entry A). x.seat < length lent) log = subst (λ (m : ℕ). All (λ (x : Entry A). x.seat < m) log) (sym (ap (λ (l : List X). length l) is ∙ long)) (nobody_else n log backs whole settled count) in
    held_lent (λ p q start e. IsHeldIn facts log p q start e) door seat old lent (map door new) doors' (map end new) ends log is returned ended
    (holds_all (λ p q start last e. WasHeld facts p q start last e) (λ p q start e. IsHeldIn facts log p q start e) door seat end lent new log
    (λ p q start last e was settled_last. record { last = last; edits = was.0; held = was.1; settled = settled_last }) same held legal settled' nobody)

-- the callers were these seats with these doors
pub held_as : {A D E : Type 0} (held : D → D → SeatContent A → E → Type 0) (doors was doors' : List D) (seats starts : List (SeatContent A)) (ends : List E) (log : List (Entry A)) → was ≡ doors → starts ≡ seats → AreHeldIn held was doors' starts ends log
    → AreHeldIn held doors doors' seats ends log
held_as {A} {D} held doors was doors' seats starts ends log same same' all =
    subst (λ (l : List (SeatContent A)). AreHeldIn held doors doors' l ends log) same' (subst (λ (l : List D). AreHeldIn held l doors' starts ends log) same all)

-- ---- the desk that was opened

-- the greenzone of a seat that made no call yet
blank_is : {A : Type 0} (book : Book) (zone : ZoneContent A) → zone ≡ blank_zone book → IsBlankZone zone
blank_is {A} book zone is = record {
  movie = ap (λ (z : ZoneContent A). z.movie) is;
  states = ap (λ (z : ZoneContent A). z.states) is;
  window = ap (λ (z : ZoneContent A). z.window) is;
}

pub opened_fresh : {A : Type 0} (n : ℕ) (seats : List (SeatContent A)) (book : Book) → length seats ≡ n → ((k : ℕ) → k < n → slice_get seats k ≡ Some (seat_of k 0 [] (blank_zone book))) → AreFresh seats
opened_fresh {A} n seats book long fresh k seat is =
    let low : k < n = omega (arith, slice_get_within seats k seat is, long) in
    let same : seat ≡ seat_of k 0 [] (blank_zone book) = same_Some seat (seat_of k 0 [] (blank_zone book)) (sym is ∙ fresh k low) in
    (ap (λ (s : SeatContent A). s.number) same, ap (λ (s : SeatContent A). s.made) same, ap (λ (s : SeatContent A). s.front) same, blank_is book seat.zone (ap (λ (s : SeatContent A). s.zone) same))

-- seats that were lent and came back
pub whole_lent : {A : Type 0} (n : ℕ) (old lent new back : List (SeatContent A)) → lent ≡ old → length old ≡ n → length new ≡ length lent → AreNumbered new → back ≡ new → IsWhole n back
whole_lent {A} n old lent new back is long same are returned =
    subst (λ (l : List (SeatContent A)). IsWhole n l) (sym returned) (whole_seats n new are (same ∙ ap (λ (l : List (SeatContent A)). length l) is ∙ long))

pub unmade_closed : {A : Type 0} (seats back : List (SeatContent A)) (log : List (Entry A)) (fault : RunFault) → back ≡ seats → IsUnmade seats fault → HaveMadeNone seats → All (IsSettled log) back → length log ≡ made_by back
    → (fault ≡ Memory) ⊎ (fault ≡ NoPlace)
unmade_closed {A} seats back log fault is why none settled count =
    unmade_fault seats log fault why none (subst (λ (l : List (SeatContent A)). All (IsSettled log) l) is settled) (count ∙ ap (λ (l : List (SeatContent A)). made_by l) is)
