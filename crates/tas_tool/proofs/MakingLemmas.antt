-- A movie that is made by two edits.
use Rattle.std.proofs.Common.{◌≡◌, ℕ, ◌+◌, ◌<◌, ◌≤◌, List, [], ◌∷◌, ◌++◌, length, take, Option, Some, None, Result, Ok, Err, inl, inr, refl, sym, ap, subst, ◌∙◌, arith, length-append, append-nil}
use Rattle.std.specs.Prelude.{OnOk, IfErr}
use Rattle.std.proofs.lemmas.Bool.{le-ltb, cases_lt}
use Rattle.std.proofs.lemmas.List.{take_all, map-append}
use mathlib.Core.List.{IsPrefix}
use Rattle.vcs_inputs.specs.declared.input.Input.{Input}
use Rattle.tas_movie.specs.Content.{MovieContent, most_inputs}
use Rattle.tas_movie.specs.declared.edit.Edit.{Edit}
use Rattle.tas_movie.specs.declared.edit.Edit.TheVariants.{Load, Insert}
use Rattle.tas_movie.specs.declared.edit.EditRefusal.{EditRefusal}
use Rattle.tas_movie.specs.Edit.{refusal, edited, edited_unless}
use Rattle.tas_published.specs.declared.entry.Entry.{Entry}
use Rattle.tas_session.specs.declared.replies.Receipt.{Receipt}
use Rattle.tas_session.specs.declared.replies.EditError.{EditError}
use Rattle.tas_session.specs.declared.replies.EditError.TheVariants.{Serial, Full, Place, Long, Memory as NoRoom}
use Rattle.tas_published.specs.History.{movie_of, entries_of}
use Rattle.tas_session.specs.Session.{refusal_at, IsEditError}
use Rattle.tas_published.specs.Strokes.{edits_in}
use Rattle.tas_desk.specs.Seats.{SeatContent, seat_of, entry_of, IsEdited}
use Rattle.tas_desk.specs.Zones.{ZoneContent}
use Rattle.tas_published.proofs.HistoryLemmas.{movie_of-push, movie_of-none}
use Rattle.tas_engines.specs.declared.fault.RunFault.{RunFault}
use Rattle.tas_engines.specs.declared.fault.RunFault.TheVariants.{Foreign, Memory}
use Rattle.tas_tool.specs.Inside.TwoEdits.{HasForeign, edit_fault, HoldsMovie, IsMakingFault, next_edit, IsUnrefused, unless_foreign}
use Rattle.tas_tool.proofs.CheckedLemmas.{entries_push, more_than, foreign_cases}

-- ---- the first edit

abbrev movie_with : List ℕ → List Input → MovieContent
movie_with cart inputs = record { cart = cart; inputs = inputs }

abbrev load_of : (A : Type 0) → List ℕ → Edit A
load_of A cart = Load cart

abbrev insert_of : (A : Type 0) → List Input → Edit A
insert_of A inputs = Insert 0 inputs

-- the seat loaded a cartridge, and has made no other edit
pub record HasLoaded {A : Type 0} (seat : SeatContent A) (cart : List ℕ) : Type 0 where
  pub number : seat.number ≡ 0
  pub made : seat.made ≡ 1
  pub seen : 1 ≤ length seat.front
  pub own : length seat.front ≡ 1 → movie_of seat.front ≡ record { cart = cart; inputs = [] }
  pub edits : length seat.front ≡ 1 → edits_in seat.front ≡ Load cart ∷ []
  pub counted : length seat.front ≡ 1 → entries_of 0 seat.front ≡ 1

empty_of : {X : Type 0} (xs : List X) → length xs ≡ 0 → xs ≡ []
empty_of [] e = refl
empty_of (x ∷ xs) e = absurd (omega (arith, e))

one_more : {X : Type 0} (xs : List X) (x : X) → length (xs ++ x ∷ []) ≡ length xs + 1
one_more xs x = length-append xs (x ∷ [])

loaded_movie : {A : Type 0} (at : List (Entry A)) (entry : Entry A) (cart : List ℕ) → entry.edit ≡ Load cart → at ≡ [] → movie_of (at ++ entry ∷ []) ≡ record { cart = cart; inputs = [] }
loaded_movie {A} at entry cart is none =
    movie_of-push at entry
    ∙ ap (λ (e : Edit A). edited (movie_of at) e) is
    ∙ ap (λ (l : List (Entry A)). edited (movie_of l) (load_of A cart)) none
    ∙ ap (λ (m : MovieContent). edited m (load_of A cart)) (movie_of-none A)

loaded_edits : {A : Type 0} (at : List (Entry A)) (entry : Entry A) (cart : List ℕ) → entry.edit ≡ Load cart → at ≡ [] → edits_in (at ++ entry ∷ []) ≡ Load cart ∷ []
loaded_edits {A} at entry cart is none = ap (λ (l : List (Entry A)). edits_in (l ++ entry ∷ [])) none ∙ ap (λ (e : Edit A). let x : List (Edit A) = e ∷ [] in x) is

loaded_count : {A : Type 0} (at : List (Entry A)) (entry : Entry A) → entry.seat ≡ 0 → at ≡ [] → entries_of 0 (at ++ entry ∷ []) ≡ 1
loaded_count {A} at entry is none = entries_push at entry 0 is ∙ ap (λ (l : List (Entry A)). entries_of 0 l + 1) none

loaded_at : {A : Type 0} (zone : ZoneContent A) (at : List (Entry A)) (number made : ℕ) (cart : List ℕ) → number ≡ 0 → made ≡ 0
    → HasLoaded (seat_of number (made + 1) (at ++ entry_of number made (Load cart) ∷ []) zone) cart
loaded_at {A} zone at number made cart nought none =
    let entry : Entry A = entry_of number made (Load cart) in
    let long = one_more at entry in
    record {
      number = nought;
      made = omega (arith, none);
      seen = omega (arith, long);
      own = λ one. loaded_movie at entry cart refl (empty_of at (omega (arith, long, one)));
      edits = λ one. loaded_edits at entry cart refl (empty_of at (omega (arith, long, one)));
      counted = λ one. loaded_count at entry nought (empty_of at (omega (arith, long, one)));
    }

pub loaded : {A : Type 0} (before now : SeatContent A) (cart : List ℕ) (receipt : Receipt) → before.number ≡ 0 → before.made ≡ 0 → IsEdited before now (Load cart) (Ok receipt) → HasLoaded now cart
loaded {A} before now cart receipt nought none edit =
    subst (λ (s : SeatContent A). HasLoaded s cart) (sym edit.seat) (loaded_at before.zone edit.at before.number before.made cart nought none)

-- ---- the second edit

insert_allowed : (A : Type 0) (cart : List ℕ) (inputs : List Input) → length inputs ≤ most_inputs → refusal (movie_with cart []) (insert_of A inputs) ≡ None
insert_allowed A cart inputs few = rw (le-ltb most_inputs (0 + length inputs) (omega (arith, few))) refl

inserted_movie : (A : Type 0) (cart : List ℕ) (inputs : List Input) → length inputs ≤ most_inputs → edited (movie_with cart []) (insert_of A inputs) ≡ movie_with cart inputs
inserted_movie A cart inputs few =
    ap (λ (r : Option EditRefusal). edited_unless r (movie_with cart []) (insert_of A inputs)) (insert_allowed A cart inputs few)
    ∙ ap (λ (l : List Input). movie_with cart l) (append-nil inputs)

-- a front that begins with another one as long is the other one
same_front : {X : Type 0} (xs ys : List X) → IsPrefix xs ys → length ys ≤ length xs → ys ≡ xs
same_front {X} xs ys begins le =
    let sum = length-append xs begins.0 in
    let long : length (xs ++ begins.0) ≡ length ys = ap (λ (l : List X). length l) begins.1 in
    sym begins.1 ∙ ap (λ (l : List X). xs ++ l) (empty_of begins.0 (omega (arith, sum, long, le))) ∙ append-nil xs

longer_front : {X : Type 0} (xs ys : List X) → IsPrefix xs ys → length xs ≤ length ys
longer_front {X} xs ys begins = omega (arith, length-append xs begins.0, ap (λ (l : List X). length l) begins.1)

-- what the seat has seen where it made its second edit
at_loaded : {A : Type 0} (seat : SeatContent A) (cart : List ℕ) (at : List (Entry A)) → HasLoaded seat cart → IsPrefix seat.front at → length at ≡ 1
    → (movie_of at ≡ movie_with cart []) × (entries_of 0 at ≡ 1) × (edits_in at ≡ Load cart ∷ [])
at_loaded {A} seat cart at first begins one =
    let seen = first.seen in
    let same : at ≡ seat.front = same_front seat.front at begins (omega (arith, seen, one)) in
    let long : length seat.front ≡ 1 = sym (ap (λ (l : List (Entry A)). length l) same) ∙ one in
    (ap (λ (l : List (Entry A)). movie_of l) same ∙ first.own long, ap (λ (l : List (Entry A)). entries_of 0 l) same ∙ first.counted long, ap (λ (l : List (Entry A)). edits_in l) same ∙ first.edits long)

-- the seat put inputs in after it loaded a cartridge, and has made no other edit
pub record HasInserted {A : Type 0} (seat : SeatContent A) (cart : List ℕ) (inputs : List Input) : Type 0 where
  pub made : seat.made ≡ 2
  pub seen : 2 ≤ length seat.front
  pub own : length seat.front ≡ 2 → movie_of seat.front ≡ record { cart = cart; inputs = inputs }
  pub edits : length seat.front ≡ 2 → edits_in seat.front ≡ Load cart ∷ Insert 0 inputs ∷ []
  pub counted : length seat.front ≡ 2 → entries_of seat.number seat.front ≡ 2

inserted_at : {A : Type 0} (seat : SeatContent A) (at : List (Entry A)) (cart : List ℕ) (inputs : List Input) → length inputs ≤ most_inputs → HasLoaded seat cart → IsPrefix seat.front at
    → HasInserted (seat_of seat.number (seat.made + 1) (at ++ entry_of seat.number seat.made (Insert 0 inputs) ∷ []) seat.zone) cart inputs
inserted_at {A} seat at cart inputs few first begins =
    let entry : Entry A = entry_of seat.number seat.made (Insert 0 inputs) in
    let long = one_more at entry in
    let more = longer_front seat.front at begins in
    let one = first.made in
    let seen = first.seen in
    record {
      made = omega (arith, one);
      seen = omega (arith, long, more, seen);
      own = λ two.
          movie_of-push at entry
          ∙ ap (λ (m : MovieContent). edited m (insert_of A inputs)) (at_loaded seat cart at first begins (omega (arith, long, two))).0
          ∙ inserted_movie A cart inputs few;
      edits = λ two.
          map-append (λ (e : Entry A). e.edit) at (entry ∷ [])
          ∙ ap (λ (l : List (Edit A)). l ++ insert_of A inputs ∷ []) (at_loaded seat cart at first begins (omega (arith, long, two))).2;
      counted = λ two.
          entries_push at entry seat.number refl
          ∙ ap (λ (n : ℕ). n + 1) (ap (λ (k : ℕ). entries_of k at) first.number ∙ (at_loaded seat cart at first begins (omega (arith, long, two))).1);
    }

-- where the second edit's place is the second one, the seat holds the movie
holds : {A : Type 0} (seat : SeatContent A) (cart : List ℕ) (inputs : List Input) → HasInserted seat cart inputs → length seat.front ≡ 2 → HoldsMovie seat (record { cart = cart; inputs = inputs })
holds {A} seat cart inputs second two =
    let whole : take 2 seat.front ≡ seat.front = take_all 2 seat.front (omega (arith, two)) in
    record {
      made = second.made;
      seen = second.seen;
      own = ap (λ (l : List (Entry A)). entries_of seat.number l) whole ∙ second.counted two;
      edits = ap (λ (l : List (Entry A)). edits_in l) whole ∙ second.edits two;
      movie_is = ap (λ (l : List (Entry A)). movie_of l) whole ∙ second.own two;
    }

-- where it isn't, there are others' edits
seen_others : {A : Type 0} (seat : SeatContent A) (cart : List ℕ) (inputs : List Input) → HasInserted seat cart inputs → (length seat.front ≡ 2 → ⊥) → HasForeign seat
seen_others seat cart inputs second other =
    let two = second.made in
    let seen = second.seen in
    more_than seat.made (length seat.front) (omega (arith, two, seen)) (λ (same : length seat.front ≡ seat.made). other (same ∙ two))

-- how the movie's making ends after both edits
abbrev IsMade : {A : Type 0} → SeatContent A → MovieContent → Result (Unit {0}) RunFault → Type 0
IsMade seat movie r = OnOk r (HoldsMovie seat movie) × IfErr r (IsMakingFault seat)

ended : {A : Type 0} (seat : SeatContent A) (cart : List ℕ) (inputs : List Input) (at : ℕ) (r : Result (Unit {0}) RunFault) → HasInserted seat cart inputs → at ≡ length seat.front → r ≡ unless_foreign at (Ok tt)
    → IsMade seat (record { cart = cart; inputs = inputs }) r
ended {A} seat cart inputs at r second here is =
    foreign_cases at (Ok tt) r (λ (x : Result (Unit {0}) RunFault). IsMade seat (record { cart = cart; inputs = inputs }) x) is
    (λ (same : at ≡ 2). (holds seat cart inputs second (sym here ∙ same), tt))
    (λ (other : at ≡ 2 → ⊥). (tt, seen_others seat cart inputs second (λ (same : length seat.front ≡ 2). other (here ∙ same))))

inserted : {A : Type 0} (before now : SeatContent A) (cart : List ℕ) (inputs : List Input) (receipt : Receipt) → length inputs ≤ most_inputs → HasLoaded before cart → IsEdited before now (Insert 0 inputs) (Ok receipt)
    → HasInserted now cart inputs
inserted {A} before now cart inputs receipt few first edit =
    subst (λ (s : SeatContent A). HasInserted s cart inputs) (sym edit.seat) (inserted_at before edit.at cart inputs few first edit.begins)

inserted_here : {A : Type 0} (before now : SeatContent A) (edit : Edit A) (receipt : Receipt) → IsEdited before now edit (Ok receipt) → receipt.at ≡ length now.front
inserted_here {A} before now edit receipt e =
    let counted : receipt.at ≡ length e.at + 1 = ap (λ (r : Receipt). r.at) e.receipt in
    let long : length now.front ≡ length e.at + 1 = ap (λ (s : SeatContent A). length s.front) e.seat ∙ length-append e.at (entry_of before.number before.made edit ∷ []) in
    counted ∙ sym long

pub movie_made : {A : Type 0} (before now : SeatContent A) (movie : MovieContent) (cart : List ℕ) (inputs : List Input) (receipt : Receipt) (r : Result (Unit {0}) RunFault) → movie ≡ record { cart = cart; inputs = inputs }
    → length inputs ≤ most_inputs → HasLoaded before cart → IsEdited before now (Insert 0 inputs) (Ok receipt) → r ≡ unless_foreign receipt.at (Ok tt) → IsMade now movie r
movie_made {A} before now movie cart inputs receipt r whole few first edit is =
    subst (λ (m : MovieContent). IsMade now m r) (sym whole)
    (ended now cart inputs receipt.at r (inserted before now cart inputs receipt few first edit) (inserted_here before now (insert_of A inputs) receipt edit) is)

-- ---- refused edits

-- where nothing but memory can refuse an edit at the seat's own edits, another refusal means that there are more
making_fault : {A : Type 0} (seat : SeatContent A) (edit : Edit A) (error : EditError) → IsEditError (refusal_at seat.front seat.number seat.made edit) error
    → (length seat.front ≤ seat.made → refusal_at seat.front seat.number seat.made edit ≡ None) → IsMakingFault seat (edit_fault error)
making_fault {A} seat edit error found none = go error found
  where
    more : (e : EditError) → refusal_at seat.front seat.number seat.made edit ≡ Some e → seat.made < length seat.front
    more e is = elim (cases_lt seat.made (length seat.front)) [
      | inl h ↦ h
      | inr h ↦ let no : refusal_at seat.front seat.number seat.made edit ≡ None = none h in absurd (cc (no, is))
    ]

    go : (e : EditError) → IsEditError (refusal_at seat.front seat.number seat.made edit) e → IsMakingFault seat (edit_fault e)
    go NoRoom is = tt
    go (Serial at counted) is = more (Serial at counted) is
    go (Full at) is = more (Full at) is
    go (Place at place len) is = more (Place at place len) is
    go (Long at len) is = more (Long at len) is

pub load_refused : {A : Type 0} (before now : SeatContent A) (cart : List ℕ) (error : EditError) → before.made ≡ 0 → IsEdited before now (Load cart) (Err error) → IsMakingFault now (edit_fault error)
load_refused {A} before now cart error none edit =
    let free : length edit.at ≤ before.made → refusal_at edit.at before.number before.made (Load cart) ≡ None = λ le. rw (empty_of edit.at (omega (arith, none, le)), none) refl in
    subst (λ (s : SeatContent A). IsMakingFault s (edit_fault error)) (sym edit.seat) (making_fault (seat_of before.number before.made edit.at before.zone) (Load cart) error edit.refusal free)

second_allowed : {A : Type 0} (seat : SeatContent A) (at : List (Entry A)) (cart : List ℕ) (inputs : List Input) → length inputs ≤ most_inputs → HasLoaded seat cart → IsPrefix seat.front at → length at ≤ seat.made
    → refusal_at at seat.number seat.made (Insert 0 inputs) ≡ None
second_allowed {A} seat at cart inputs few first begins le =
    let more = longer_front seat.front at begins in
    let made = first.made in
    let seen = first.seen in
    let one : length at ≡ 1 = omega (arith, more, made, seen, le) in
    let held = at_loaded seat cart at first begins one in
    let allowed : refusal (movie_of at) (insert_of A inputs) ≡ None = ap (λ (m : MovieContent). refusal m (insert_of A inputs)) held.0 ∙ insert_allowed A cart inputs few in
    rw (first.number, made, held.1, one, allowed) refl

pub insert_refused : {A : Type 0} (before now : SeatContent A) (cart : List ℕ) (inputs : List Input) (error : EditError) → length inputs ≤ most_inputs → HasLoaded before cart → IsEdited before now (Insert 0 inputs) (Err error)
    → IsMakingFault now (edit_fault error)
insert_refused {A} before now cart inputs error few first edit =
    subst (λ (s : SeatContent A). IsMakingFault s (edit_fault error)) (sym edit.seat)
    (making_fault (seat_of before.number before.made edit.at before.zone) (Insert 0 inputs) error edit.refusal (second_allowed before edit.at cart inputs few first edit.begins))

-- ---- out of memory

not_room : ◌≡◌ {A = RunFault} Foreign Memory → ⊥
not_room e = cc

-- where memory refuses an edit nothing else does
room_alone : {A : Type 0} (before now : SeatContent A) (edit : Edit A) (error : EditError) → IsEdited before now edit (Err error) → edit_fault error ≡ Memory → refusal_at now.front now.number now.made edit ≡ None
room_alone {A} before now edit NoRoom e is = subst (λ (s : SeatContent A). refusal_at s.front s.number s.made edit ≡ None) (sym e.seat) e.refusal
room_alone before now edit (Serial at counted) e is = absurd (not_room is)
room_alone before now edit (Full at) e is = absurd (not_room is)
room_alone before now edit (Place at place len) e is = absurd (not_room is)
room_alone before now edit (Long at len) e is = absurd (not_room is)

as_before : {A : Type 0} (before now : SeatContent A) (edit : Edit A) (error : EditError) → IsEdited before now edit (Err error) → now.made ≡ before.made
as_before {A} before now edit error e = ap (λ (s : SeatContent A). s.made) e.seat

unrefused_next : {A : Type 0} (seat : SeatContent A) (movie : MovieContent) (made : ℕ) (edit : Edit A) → seat.made ≡ made → next_edit A movie made ≡ edit → refusal_at seat.front seat.number seat.made edit ≡ None → IsUnrefused A seat movie
unrefused_next {A} seat movie made edit so_many next none =
    ap (λ (e : Edit A). refusal_at seat.front seat.number seat.made e) (ap (λ (n : ℕ). next_edit A movie n) so_many ∙ next) ∙ none

pub unrefused_at_first : {A : Type 0} (seat : SeatContent A) (movie : MovieContent) → seat.number ≡ 0 → seat.made ≡ 0 → seat.front ≡ [] → IsUnrefused A seat movie
unrefused_at_first {A} seat movie number made front = unrefused_next seat movie 0 (Load movie.cart) made refl (rw (front, made) refl)

pub load_unrefused : {A : Type 0} (before now : SeatContent A) (movie : MovieContent) (cart : List ℕ) (inputs : List Input) (error : EditError) → movie ≡ record { cart = cart; inputs = inputs } → before.made ≡ 0
    → IsEdited before now (Load cart) (Err error) → edit_fault error ≡ Memory → IsUnrefused A now movie
load_unrefused {A} before now movie cart inputs error whole none edit is =
    unrefused_next now movie 0 (Load cart) (as_before before now (load_of A cart) error edit ∙ none) (ap (λ (m : MovieContent). next_edit A m 0) whole) (room_alone before now (Load cart) error edit is)

pub insert_unrefused : {A : Type 0} (before now : SeatContent A) (movie : MovieContent) (cart : List ℕ) (inputs : List Input) (error : EditError) → movie ≡ record { cart = cart; inputs = inputs } → before.made ≡ 1
    → IsEdited before now (Insert 0 inputs) (Err error) → edit_fault error ≡ Memory → IsUnrefused A now movie
insert_unrefused {A} before now movie cart inputs error whole one edit is =
    unrefused_next now movie 1 (Insert 0 inputs) (as_before before now (insert_of A inputs) error edit ∙ one) (ap (λ (m : MovieContent). next_edit A m 1) whole) (room_alone before now (Insert 0 inputs) error edit is)

-- an answer that was compared is none of memory
pub compared : {A : Type 0} (seat : SeatContent A) (movie : MovieContent) (at : ℕ) (r : Result (Unit {0}) RunFault) → r ≡ unless_foreign at (Ok tt) → IfErr r (λ (f : RunFault). f ≡ Memory → IsUnrefused A seat movie)
compared {A} seat movie at r is =
    foreign_cases at (Ok tt) r (λ (x : Result (Unit {0}) RunFault). IfErr x (λ (f : RunFault). f ≡ Memory → IsUnrefused A seat movie)) is
    (λ (here : at ≡ 2). tt) (λ (other : at ≡ 2 → ⊥). λ e. absurd (not_room e))
