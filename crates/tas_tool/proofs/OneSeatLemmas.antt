-- A desk of one seat, from its opening to its end.
use Rattle.std.proofs.Common.{◌≡◌, ℕ, zero, suc, ◌+◌, ◌<◌, ◌≤◌, List, [], ◌∷◌, ◌++◌, length, take, set, Bool, true, false, cond, Some, ◌⊎◌, inl, inr, sym, ap, subst, ◌∙◌, arith, append-nil, length-append}
use Rattle.std.specs.Prelude.{All, count_by, ◌==◌, slice_get, slice_index_or}
use Rattle.logbook.specs.Pages.{Book}
use Rattle.tas_movie.specs.Content.{MovieContent, blank_movie}
use Rattle.tas_published.specs.declared.entry.Entry.{Entry}
use Rattle.tas_published.specs.History.{entries_of, movie_of}
use Rattle.tas_desk.specs.Seats.{SeatContent, seat_of, IsSettled, IsWhole}
use Rattle.tas_desk.specs.Zones.{ZoneContent, blank_zone}
use Rattle.tas_desk.specs.Closing.{made_by}
use Rattle.tas_published.proofs.HistoryLemmas.{movie_of-none}
use Rattle.tas_desk.proofs.SeatLemmas.{count_by-cons}
use Rattle.tas_engines.specs.declared.fault.RunFault.{RunFault}
use Rattle.tas_engines.specs.declared.fault.RunFault.TheVariants.{NoPlace, Memory}
use Rattle.tas_seat.specs.Turns.{Standing, standing_of}
use Rattle.tas_tool.specs.Scripts.{standing_at_start}
use Rattle.tas_tool.specs.Inside.Alone.{SeesOwn}
use Rattle.tas_tool.proofs.AloneLemmas.{alone_before, none_left}
use Rattle.tas_seat.proofs.HistoryLemmas.{prefix_length}

-- ---- the seat of a desk that was just opened

-- a desk that wasn't opened
pub either_fault : (P : RunFault → Type 0) (fault : RunFault) → (fault ≡ Memory) ⊎ (fault ≡ NoPlace) → P Memory → P NoPlace → P fault
either_fault P fault (inl is) memory place = subst P (sym is) memory
either_fault P fault (inr is) memory place = subst P (sym is) place

pub first_of : {X : Type 0} (xs : List X) (x d : X) → slice_get xs 0 ≡ Some x → slice_index_or xs 0 d ≡ x
first_of [] x d e = absurd (cc e)
first_of (y ∷ xs) x d e = cc e

pub fresh_seen : {A : Type 0} (seat : SeatContent A) (zone : ZoneContent A) → seat ≡ seat_of 0 0 [] zone → seat.made ≤ length seat.front
fresh_seen {A} seat zone is = omega (arith, ap (λ (s : SeatContent A). s.made) is)

pub fresh_standing : {A : Type 0} (seat : SeatContent A) (zone : ZoneContent A) → seat ≡ seat_of 0 0 [] zone → standing_of seat.front ≡ standing_at_start
fresh_standing {A} seat zone is = ap (λ (s : SeatContent A). standing_of s.front) is ∙ ap (λ (m : MovieContent). let x : Standing = record { movie = m; made = 0 } in x) (movie_of-none A)

pub fresh_first : {A : Type 0} (seat : SeatContent A) (zone : ZoneContent A) → seat ≡ seat_of 0 0 [] zone → (seat.number ≡ 0) × (seat.made ≡ 0) × (seat.front ≡ [])
fresh_first {A} seat zone is = (ap (λ (s : SeatContent A). s.number) is, ap (λ (s : SeatContent A). s.made) is, ap (λ (s : SeatContent A). s.front) is)

pub fresh_zone : {A : Type 0} (seat : SeatContent A) (book : Book) → seat ≡ seat_of 0 0 [] (blank_zone book) → (seat.zone.movie ≡ blank_movie) × (seat.zone.states ≡ [])
fresh_zone {A} seat book is = (ap (λ (s : SeatContent A). s.zone.movie) is, ap (λ (s : SeatContent A). s.zone.states) is)

-- ---- the desk that is closed

abbrev one_if : Bool → ℕ
one_if b = cond b 1 0

at_most_one : (b : Bool) → one_if b ≤ 1
at_most_one true = omega arith
at_most_one false = omega arith

below_alone : {A : Type 0} (seat : SeatContent A) (n : ℕ) → seat.number < n → All (λ s. s.number < n) (seat ∷ [])
below_alone seat n lt zero d h = lt
below_alone seat n lt (suc k) d h = absurd (omega (arith, h))

once_alone : {A : Type 0} (seat : SeatContent A) (k : ℕ) → count_by (λ (s : SeatContent A). s.number == k) (seat ∷ []) ≤ 1
once_alone {A} seat k =
    let e = count_by-cons (λ (s : SeatContent A). s.number == k) seat [] in
    omega (arith, e, at_most_one (seat.number == k))

-- one seat with the number 0 is all
pub whole_alone : {A : Type 0} (seats : List (SeatContent A)) (seat : SeatContent A) (n : ℕ) → seats ≡ seat ∷ [] → n ≡ 1 → seat.number ≡ 0 → IsWhole n seats
whole_alone {A} seats seat n is one nought =
    subst (λ (l : List (SeatContent A)). IsWhole n l) (sym is) (record {
      all = sym one;
      below = below_alone seat n (omega (arith, one, nought));
      once = once_alone seat;
    })

pub sees_own : {A : Type 0} (journal : List (Entry A)) (seats : List (SeatContent A)) (seat : SeatContent A) → seats ≡ seat ∷ [] → All (IsSettled journal) seats → length journal ≡ made_by seats → length seat.front ≤ seat.made
sees_own {A} journal seats seat is settled count =
    let one : All (IsSettled journal) (seat ∷ []) = subst (λ (l : List (SeatContent A)). All (IsSettled journal) l) is settled in
    let mine : IsSettled journal seat = one zero seat (omega arith) in
    let sum : length journal ≡ seat.made + 0 = count ∙ ap (λ (l : List (SeatContent A)). made_by l) is in
    omega (arith, length-append seat.front mine.begins.0, ap (λ (l : List (Entry A)). length l) mine.begins.1, sum)

-- so it sees its own edits alone
pub sees_alone : {A : Type 0} (journal : List (Entry A)) (seats : List (SeatContent A)) (seat : SeatContent A) → seats ≡ seat ∷ [] → All (IsSettled journal) seats → length journal ≡ made_by seats → seat.number ≡ 0 → SeesOwn seat
sees_alone {A} journal seats seat is settled count nought =
    let one : All (IsSettled journal) (seat ∷ []) = subst (λ (l : List (SeatContent A)). All (IsSettled journal) l) is settled in
    let mine : IsSettled journal seat = one zero seat (omega arith) in
    let sum : length journal ≡ seat.made + 0 = count ∙ ap (λ (l : List (SeatContent A)). made_by l) is in
    let all : entries_of 0 journal ≡ seat.made = ap (λ (n : ℕ). entries_of n journal) (sym nought) ∙ mine.exact in
    record {
      number = nought;
      few = sees_own journal seats seat is settled count;
      alone = alone_before 0 seat.front journal mine.begins (omega (arith, all, sum));
    }

-- where it has seen all that it made, its movie is the one that the desk leaves
pub left_movie : {A : Type 0} (journal : List (Entry A)) (seats : List (SeatContent A)) (seat : SeatContent A) → seats ≡ seat ∷ [] → All (IsSettled journal) seats → length journal ≡ made_by seats → seat.made ≤ length seat.front
    → movie_of journal ≡ movie_of seat.front
left_movie {A} journal seats seat is settled count seen =
    let one : All (IsSettled journal) (seat ∷ []) = subst (λ (l : List (SeatContent A)). All (IsSettled journal) l) is settled in
    let mine : IsSettled journal seat = one zero seat (omega arith) in
    let sum : length journal ≡ seat.made + 0 = count ∙ ap (λ (l : List (SeatContent A)). made_by l) is in
    let none : mine.begins.0 ≡ [] = none_left mine.begins.0 (omega (arith, seen, sum, prefix_length seat.front journal mine.begins)) in
    ap (λ (l : List (Entry A)). movie_of l) (sym mine.begins.1 ∙ ap (λ (l : List (Entry A)). seat.front ++ l) none ∙ append-nil seat.front)

-- the one seat, written back
pub written_back : {X : Type 0} (xs rest out : List X) (x : X) (n : ℕ) → length xs ≡ 1 → n ≡ 1 → out ≡ take n (set xs 0 x ++ rest) → out ≡ x ∷ []
written_back [] rest out x n one short is = absurd (cc one)
written_back (y ∷ []) rest out x n one short is = is ∙ ap (λ (k : ℕ). take k (x ∷ rest)) short
written_back (y ∷ z ∷ ys) rest out x n one short is = absurd (omega (arith, one))
