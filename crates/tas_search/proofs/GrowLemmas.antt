-- A layer that grows by parts is what it grows to at once.
use Rattle.std.proofs.Common.{◌≡◌, ℕ, zero, suc, ◌+◌, ◌-◌, ◌*◌, ◌<◌, ◌≤◌, Bool, true, false, List, [], ◌∷◌, ◌++◌, length, take, drop, get_or, refl, sym, ap, subst, ◌∙◌, inl, inr, arith}
use Rattle.std.specs.Prelude.{◌||◌, min, slice_index_or, is_some, if◌then◌else◌, Option, Some, None, ◌⊎◌}
use Rattle.std.specs.List.{list_any, range_with_len}
use Rattle.std.proofs.lemmas.List.Folds.{list_any-append}
use Rattle.std.proofs.lemmas.Bool.{cases_lt}
use Rattle.std.proofs.Math.Nat.{suc-mul}
use Rattle.std.proofs.Math.Seq.{take-add}
use Rattle.std.proofs.lemmas.List.{take_more, length-take, length_push, take_all, get_or_default}
use Rattle.std.proofs.lemmas.List.Sums.{fold_push, sum_by-append, sum_by-cons}
use Rattle.vcs_inputs.specs.Input.{no_input}
use Rattle.vcs_cpu.specs.declared.halt.Halt.{Halt}
use Rattle.vcs_machine.specs.Equality.{are_same_machines, machines_decide}
use Rattle.vcs_machine.specs.Machine.{Machine, unless_halted}
use Rattle.indexmap.specs.IndexSet.{insert_key, insert_all}
use Rattle.tas_search.specs.declared.arrival.Arrival.{Arrival}
use Rattle.tas_search.specs.declared.reaching.Part.{Part}
use Rattle.tas_search.specs.Space.{SpaceContent, after_choice, are_lag_frames, low_at, count_at}
use Rattle.tas_search.specs.LayerLines.{next_choices, played_of, tried}
use Rattle.tas_search.specs.Inside.Arrivals.{are_same_arrivals, arrival_at, arrivals_from, arrivals_of, grown_arrivals, tried_of, Finds, Lists, ListsOneMore, stretch_at, AreParts, with_parts, listed_of, TakesFirst, TakesParts, GrowsBy, IsOver}
use Rattle.tas_search.proofs.CodeLemmas.{grown_push, choice_added, choices_none, first_adds_all, halted_none, going_on as goes_on}

-- ---- lists

pub insert_push : (next list : List Arrival) (a : Arrival) → insert_all are_same_arrivals next (list ++ a ∷ []) ≡ insert_key are_same_arrivals (insert_all are_same_arrivals next list) a
insert_push next list a = fold_push (insert_key are_same_arrivals) next list a

pub grown_append : (s : SpaceContent) (xs ys next : List Arrival) (place : ℕ) → grown_arrivals s next place (xs ++ ys) ≡ grown_arrivals s (grown_arrivals s next place xs) (place + length xs) ys
grown_append s [] ys next place = ap (λ (p : ℕ). grown_arrivals s next p ys) here
  where
    here : place ≡ place + 0
    here = omega arith
grown_append s (x ∷ xs) ys next place =
    grown_append s xs ys (insert_all are_same_arrivals next (arrivals_of s x.state place)) (suc place)
    ∙ ap (λ (p : ℕ). grown_arrivals s (grown_arrivals s (insert_all are_same_arrivals next (arrivals_of s x.state place)) (suc place) xs) p ys) here
  where
    here : suc place + length xs ≡ place + suc (length xs)
    here = omega arith

pub tried_append : (s : SpaceContent) (place : ℕ) (xs ys : List Arrival) → tried_of s place (xs ++ ys) ≡ tried_of s place xs + tried_of s (place + length xs) ys
tried_append s place [] ys = ap (λ (p : ℕ). tried_of s p ys) here ∙ none (tried_of s (place + 0) ys)
  where
    here : place ≡ place + 0
    here = omega arith

    none : (n : ℕ) → n ≡ 0 + n
    none n = omega arith
tried_append s place (x ∷ xs) ys =
    ap (λ (n : ℕ). tried s place x.state + n) (tried_append s (suc place) xs ys ∙ ap (λ (p : ℕ). tried_of s (suc place) xs + tried_of s p ys) here)
    ∙ regroup (tried s place x.state) (tried_of s (suc place) xs) (tried_of s (place + suc (length xs)) ys)
  where
    here : suc place + length xs ≡ place + suc (length xs)
    here = omega arith

    regroup : (a b c : ℕ) → a + (b + c) ≡ (a + b) + c
    regroup a b c = omega arith

-- one arrival more in a worker's list
pub lists_more : (s : SpaceContent) (place j : ℕ) (bs old new : List Arrival) (a : Arrival) → j < length bs → a ≡ get_or bs j a → Lists s place (take j bs) old → ListsOneMore s a.state (place + j) old new
    → Lists s place (take (j + 1) bs) new
lists_more s place j bs old new a lt is h more = record {
  adds = λ next.
      more.adds next
      ∙ ap (λ (ks : List Arrival). insert_all are_same_arrivals ks (arrivals_of s a.state (place + j))) (h.adds next)
      ∙ ap (λ (n : ℕ). insert_all are_same_arrivals (grown_arrivals s next place (take j bs)) (arrivals_of s a.state (place + n))) whole
      ∙ sym (grown_push s (take j bs) next place a)
      ∙ ap (grown_arrivals s next place) taken;
  count = omega (arith, more.count, h.count, tried_append s place (take j bs) (a ∷ []), ap (λ (n : ℕ). tried_of s (place + n) (a ∷ [])) whole, ap (tried_of s place) taken);
}
  where
    whole : j ≡ length (take j bs)
    whole = omega (arith, length-take j bs)

    taken : take j bs ++ a ∷ [] ≡ take (j + 1) bs
    taken = ap (λ (x : Arrival). take j bs ++ x ∷ []) is ∙ sym (take_more bs j a lt)

-- one arrival more in a layer
pub insert_more : (old now new list : List Arrival) (i : ℕ) (a : Arrival) → i < length list → a ≡ get_or list i a → now ≡ insert_all are_same_arrivals old (take i list) → new ≡ insert_key are_same_arrivals now a
    → new ≡ insert_all are_same_arrivals old (take (i + 1) list)
insert_more old now new list i a lt is h e =
    e
    ∙ ap (λ (ks : List Arrival). insert_key are_same_arrivals ks a) h
    ∙ sym (insert_push old (take i list) a)
    ∙ ap (insert_all are_same_arrivals old) (ap (λ (x : Arrival). take i list ++ x ∷ []) is ∙ sym (take_more list i a lt))

-- ---- one state's choices

pub halted_tries : (s : SpaceContent) (place : ℕ) (m : Machine) → is_some m.halt ≡ true → tried s place m ≡ 0
halted_tries s place m e = split m.halt (length (played_of s m (next_choices s place))) e
  where
    split : (h : Option Halt) (n : ℕ) → is_some h ≡ true → unless_halted h n 0 ≡ 0
    split None n e = absurd cc
    split (Some x) n e = refl

-- of n choices from number k on one is played where all frames of the first are lag frames, and else all
range_tries : (s : SpaceContent) (m : Machine) (k n : ℕ)
    → length (played_of s m (range_with_len k n)) ≡ (if are_lag_frames s.cart m (slice_index_or s.choices k no_input) s.hold then min 1 n else n)
range_tries s m k zero = none (are_lag_frames s.cart m (slice_index_or s.choices k no_input) s.hold)
  where
    none : (b : Bool) → 0 ≡ (if b then min 1 0 else 0)
    none true = omega arith
    none false = refl
range_tries s m k (suc n) = some (are_lag_frames s.cart m (slice_index_or s.choices k no_input) s.hold)
  where
    range_length : (k n : ℕ) → length (range_with_len k n) ≡ n
    range_length k zero = refl
    range_length k (suc n) = ap suc (range_length (k + 1) n)

    some : (b : Bool) → suc (length (if b then [] else range_with_len (k + 1) n)) ≡ (if b then min 1 (suc n) else suc n)
    some true = omega arith
    some false = ap suc (range_length (k + 1) n)

pub tries_are : (s : SpaceContent) (place : ℕ) (m : Machine) (lag : Bool) → is_some m.halt ≡ false → lag ≡ are_lag_frames s.cart m (slice_index_or s.choices (low_at s place) no_input) s.hold
    → tried s place m ≡ (if lag then min 1 (count_at s place) else count_at s place)
tries_are s place m lag e is =
    split m.halt (length (played_of s m (next_choices s place))) e
    ∙ range_tries s m (low_at s place) (count_at s place)
    ∙ ap (λ (b : Bool). if b then min 1 (count_at s place) else count_at s place) (sym is)
  where
    split : (h : Option Halt) (n : ℕ) → is_some h ≡ false → unless_halted h n 0 ≡ n
    split None n e = refl
    split (Some x) n e = absurd cc

-- a list of what the first k of the choices that can come next reach; what those after it reach makes it whole
pub record ListsSome (s : SpaceContent) (m : Machine) (place k : ℕ) (old list : List Arrival) : Type 0 where
  pub adds : (next : List Arrival) → insert_all are_same_arrivals (insert_all are_same_arrivals next list) (arrivals_from s m place (low_at s place + k) (count_at s place - k))
      ≡ insert_all are_same_arrivals (insert_all are_same_arrivals next old) (arrivals_from s m place (low_at s place) (count_at s place))
  pub count : length list ≡ length old + k

lists_first : (s : SpaceContent) (m : Machine) (place : ℕ) (old : List Arrival) → ListsSome s m place 0 old old
lists_first s m place old = record {
  adds = λ next.
      ap (λ (n : ℕ). insert_all are_same_arrivals (insert_all are_same_arrivals next old) (arrivals_from s m place (low_at s place + 0) n)) whole
      ∙ ap (λ (k : ℕ). insert_all are_same_arrivals (insert_all are_same_arrivals next old) (arrivals_from s m place k (count_at s place))) plus;
  count = sum;
}
  where
    whole : count_at s place - 0 ≡ count_at s place
    whole = omega arith

    plus : low_at s place + 0 ≡ low_at s place
    plus = omega arith

    sum : length old ≡ length old + 0
    sum = omega arith

pub choice_listed : (s : SpaceContent) (m reached : Machine) (place k : ℕ) (old now new : List Arrival) → k < count_at s place → reached ≡ after_choice s m (low_at s place + k)
    → new ≡ now ++ arrival_at reached place (low_at s place + k) ∷ [] → ListsSome s m place k old now → ListsSome s m place (k + 1) old new
choice_listed s m reached place k old now new lt at is h = record {
  adds = λ next.
      choice_added s m reached place (low_at s place) k (count_at s place) (insert_all are_same_arrivals next now) (insert_all are_same_arrivals next new)
      (insert_all are_same_arrivals (insert_all are_same_arrivals next old) (arrivals_from s m place (low_at s place) (count_at s place))) lt at
      (ap (insert_all are_same_arrivals next) is ∙ insert_push next now (arrival_at reached place (low_at s place + k))) (h.adds next);
  count = omega (arith, ap length is, length_push now (arrival_at reached place (low_at s place + k)), h.count);
}

pub first_listed : (s : SpaceContent) (m reached : Machine) (place : ℕ) (old new : List Arrival) → 0 < count_at s place → reached ≡ after_choice s m (low_at s place)
    → new ≡ old ++ arrival_at reached place (low_at s place) ∷ [] → ListsSome s m place 1 old new
first_listed s m reached place old new some at is =
    choice_listed s m reached place 0 old old new some (at ∙ ap (after_choice s m) plus) (is ∙ ap (λ (k : ℕ). old ++ arrival_at reached place k ∷ []) plus) (lists_first s m place old)
  where
    plus : low_at s place ≡ low_at s place + 0
    plus = omega arith

pub all_listed : (s : SpaceContent) (m : Machine) (place k : ℕ) (old new : List Arrival) → is_some m.halt ≡ false → k ≡ count_at s place → tried s place m ≡ count_at s place → ListsSome s m place k old new
    → ListsOneMore s m place old new
all_listed s m place k old new live all tries h = record {
  adds = λ next.
      sym (choices_none s m place (low_at s place + count_at s place) (count_at s place) (insert_all are_same_arrivals next new))
      ∙ subst (λ (n : ℕ). insert_all are_same_arrivals (insert_all are_same_arrivals next new) (arrivals_from s m place (low_at s place + n) (count_at s place - n))
      ≡ insert_all are_same_arrivals (insert_all are_same_arrivals next old) (arrivals_from s m place (low_at s place) (count_at s place))) all (h.adds next)
      ∙ ap (insert_all are_same_arrivals (insert_all are_same_arrivals next old)) (sym (goes_on m.halt (arrivals_from s m place (low_at s place) (count_at s place)) live));
  count = h.count ∙ ap (λ (n : ℕ). length old + n) (all ∙ sym tries);
}

pub alike_listed : (s : SpaceContent) (m reached : Machine) (place : ℕ) (old new : List Arrival) → is_some m.halt ≡ false → 0 < count_at s place → reached ≡ after_choice s m (low_at s place)
    → new ≡ old ++ arrival_at reached place (low_at s place) ∷ [] → ((j : ℕ) → after_choice s m j ≡ reached) → tried s place m ≡ min 1 (count_at s place) → ListsOneMore s m place old new
alike_listed s m reached place old new live some at is alike tries = record {
  adds = λ next.
      first_adds_all s m reached place (low_at s place) (count_at s place) (insert_all are_same_arrivals next old) (insert_all are_same_arrivals next new) some at
      (ap (insert_all are_same_arrivals next) is ∙ insert_push next old (arrival_at reached place (low_at s place))) alike
      ∙ ap (insert_all are_same_arrivals (insert_all are_same_arrivals next old)) (sym (goes_on m.halt (arrivals_from s m place (low_at s place) (count_at s place)) live));
  count = omega (arith, ap length is, length_push old (arrival_at reached place (low_at s place)), tries);
}

-- no choice, or a halted machine
pub nothing_listed : (s : SpaceContent) (m : Machine) (place : ℕ) (old : List Arrival) → (count_at s place ≡ 0) ⊎ (is_some m.halt ≡ true) → ListsOneMore s m place old old
nothing_listed s m place old why = record {
  adds = λ next. ap (insert_all are_same_arrivals (insert_all are_same_arrivals next old)) (sym (none why));
  count = omega (arith, zero_tried why);
}
  where
    no_choices : (h : Option Halt) (n : ℕ) → n ≡ 0 → unless_halted h (arrivals_from s m place (low_at s place) n) [] ≡ []
    no_choices None n e = ap (arrivals_from s m place (low_at s place)) e
    no_choices (Some x) n e = refl

    none : (count_at s place ≡ 0) ⊎ (is_some m.halt ≡ true) → arrivals_of s m place ≡ []
    none (inl e) = no_choices m.halt (count_at s place) e
    none (inr e) = halted_none m.halt (arrivals_from s m place (low_at s place) (count_at s place)) e

    no_tries : (h : Option Halt) (n : ℕ) → n ≡ 0 → unless_halted h n 0 ≡ 0
    no_tries None n e = e
    no_tries (Some x) n e = refl

    zero_tried : (count_at s place ≡ 0) ⊎ (is_some m.halt ≡ true) → tried s place m ≡ 0
    zero_tried (inl e) =
        no_tries m.halt (length (played_of s m (next_choices s place))) (ap (λ (n : ℕ). length (played_of s m (range_with_len (low_at s place) n))) e)
    zero_tried (inr e) = halted_tries s place m e

-- ---- each machine once

-- an arrival's machine is among those of some
abbrev Knows : List Arrival → Arrival → Type 0
Knows ks a = list_any (are_same_arrivals a) ks ≡ true

or_true : (b : Bool) → (b || true) ≡ true
or_true true = refl
or_true false = refl

known_push : (ks : List Arrival) (x a : Arrival) → Knows ks a → Knows (ks ++ x ∷ []) a
known_push ks x a h = list_any-append (are_same_arrivals a) ks (x ∷ []) ∙ ap (λ (b : Bool). b || list_any (are_same_arrivals a) (x ∷ [])) h

known_key : (ks : List Arrival) (x a : Arrival) → Knows ks a → Knows (insert_key are_same_arrivals ks x) a
known_key ks x a h = split (list_any (are_same_arrivals x) ks)
  where
    split : (b : Bool) → Knows (if b then ks else ks ++ x ∷ []) a
    split true = h
    split false = known_push ks x a h

known_all : (bs ks : List Arrival) (a : Arrival) → Knows ks a → Knows (insert_all are_same_arrivals ks bs) a
known_all [] ks a h = h
known_all (x ∷ bs) ks a h = known_all bs (insert_key are_same_arrivals ks x) a (known_key ks x a h)

known_self : (ks : List Arrival) (x : Arrival) → Knows (insert_key are_same_arrivals ks x) x
known_self ks x = split (list_any (are_same_arrivals x) ks) refl
  where
    split : (b : Bool) → list_any (are_same_arrivals x) ks ≡ b → Knows (if b then ks else ks ++ x ∷ []) x
    split true e = e
    split false e =
        list_any-append (are_same_arrivals x) ks (x ∷ [])
        ∙ ap (λ (b : Bool). list_any (are_same_arrivals x) ks || (b || false)) ((machines_decide x.state x.state).1 refl)
        ∙ or_true (list_any (are_same_arrivals x) ks)

known_same : (ks : List Arrival) (a b : Arrival) → a.state ≡ b.state → Knows ks b → Knows ks a
known_same ks a b e h = subst (λ (m : Machine). list_any (λ o. are_same_machines m o.state) ks ≡ true) (sym e) h

-- what is among some is among what these make of others
known_member : (ks next : List Arrival) (a : Arrival) → Knows ks a → Knows (insert_all are_same_arrivals next ks) a
known_member [] next a h = absurd cc
known_member (x ∷ ks) next a h = split (are_same_machines a.state x.state) refl (known_member ks (insert_key are_same_arrivals next x) a)
  where
    tail : (b : Bool) → b ≡ false → (b || list_any (are_same_arrivals a) ks) ≡ true → Knows ks a
    tail true e h = absurd cc
    tail false e h = h

    split : (b : Bool) → are_same_machines a.state x.state ≡ b → (Knows ks a → Knows (insert_all are_same_arrivals (insert_key are_same_arrivals next x) ks) a)
        → Knows (insert_all are_same_arrivals (insert_key are_same_arrivals next x) ks) a
    split true e more =
        known_same (insert_all are_same_arrivals (insert_key are_same_arrivals next x) ks) a x ((machines_decide a.state x.state).0 e)
        (known_all ks (insert_key are_same_arrivals next x) x (known_self next x))
    split false e more = more (tail (are_same_machines a.state x.state) e h)

-- one more, put in before or after
push_inside : (ks next : List Arrival) (a : Arrival) → insert_all are_same_arrivals next (insert_key are_same_arrivals ks a) ≡ insert_key are_same_arrivals (insert_all are_same_arrivals next ks) a
push_inside ks next a = split (list_any (are_same_arrivals a) ks) refl
  where
    split : (b : Bool) → list_any (are_same_arrivals a) ks ≡ b → insert_all are_same_arrivals next (if b then ks else ks ++ a ∷ []) ≡ insert_key are_same_arrivals (insert_all are_same_arrivals next ks) a
    split true e =
        ap (λ (b : Bool). if b then insert_all are_same_arrivals next ks else insert_all are_same_arrivals next ks ++ a ∷ []) (sym (known_member ks next a e))
    split false e = insert_push next ks a

all_inside : (list ks next : List Arrival) → insert_all are_same_arrivals next (insert_all are_same_arrivals ks list) ≡ insert_all are_same_arrivals (insert_all are_same_arrivals next ks) list
all_inside [] ks next = refl
all_inside (a ∷ list) ks next = all_inside list (insert_key are_same_arrivals ks a) next ∙ ap (λ (xs : List Arrival). insert_all are_same_arrivals xs list) (push_inside ks next a)

-- what a worker lists may as well be put into a set first
pub finds_are : (s : SpaceContent) (place : ℕ) (bs list none found : List Arrival) → Lists s place bs list → none ≡ [] → found ≡ insert_all are_same_arrivals none list → Finds s place bs found (length list)
finds_are s place bs list none found h empty is = record {
  adds = λ next.
      ap (insert_all are_same_arrivals next) (is ∙ ap (λ (ks : List Arrival). insert_all are_same_arrivals ks list) empty)
      ∙ all_inside list [] next
      ∙ h.adds next;
  count = h.count;
}

-- ---- blocks

pub member : {X : Type 0} (xs : List X) (k : ℕ) → k < length xs → (x : X) × (x ≡ get_or xs k x)
member [] k lt = absurd (omega arith)
member (x ∷ xs) zero lt = (x, refl)
member (x ∷ xs) (suc k) lt = member xs k (omega arith)

-- the first k parts are put into a layer: what the stretches that they are of reach
pub parts_grow : {Z : Type 0} (s : SpaceContent) (place size k : ℕ) (bs old : List Arrival) (parts : List (Part Z)) → AreParts s place size bs parts → k ≤ length parts
    → ((i : ℕ) (d : Part Z) → i < k → (slice_index_or parts i d).whole ≡ true)
    → (with_parts old (take k parts) ≡ grown_arrivals s old place (take (k * size) bs)) × (listed_of (take k parts) ≡ tried_of s place (take (k * size) bs))
parts_grow s place size zero bs old parts are le whole = (ap (λ (n : ℕ). grown_arrivals s old place (take n bs)) none, ap (λ (n : ℕ). tried_of s place (take n bs)) none)
  where
    none : 0 ≡ 0 * size
    none = omega arith
parts_grow {Z} s place size (suc k) bs old parts are le whole =
    let before = parts_grow s place size k bs old parts are (omega arith) (λ i d lt. whole i d (omega arith)) in
    let found = member parts k (omega arith) in
    let one : Finds s (place + k * size) (stretch_at bs size k) found.0.found.keys found.0.tried =
    subst (λ (p : Part Z). Finds s (place + k * size) (stretch_at bs size k) p.found.keys p.tried) (sym found.1) (are.each k found.0 (omega arith) (whole k found.0 (omega arith))) in
    let parts_are : take (suc k) parts ≡ take k parts ++ found.0 ∷ [] = next_part parts k found.0 (omega arith) found.1 in
    let arrivals_are : take (suc k * size) bs ≡ take (k * size) bs ++ stretch_at bs size k = ap (λ (n : ℕ). take n bs) (row k size) ∙ take-add (k * size) size bs in
    let count : place + length (take (k * size) bs) ≡ place + k * size = ap (λ (n : ℕ). place + n) (whole_front k size bs (are.within k (omega arith))) in (
      ap (with_parts old) parts_are
          ∙ fold_push (λ (ks : List Arrival) (p : Part Z). insert_all are_same_arrivals ks p.found.keys) old (take k parts) found.0
          ∙ ap (λ (ks : List Arrival). insert_all are_same_arrivals ks found.0.found.keys) before.0
          ∙ one.adds (grown_arrivals s old place (take (k * size) bs))
          ∙ ap (λ (n : ℕ). grown_arrivals s (grown_arrivals s old place (take (k * size) bs)) n (stretch_at bs size k)) (sym count)
          ∙ sym (grown_append s (take (k * size) bs) (stretch_at bs size k) old place)
          ∙ ap (grown_arrivals s old place) (sym arrivals_are),
      omega (
        arith,
        ap listed_of parts_are,
        sum_by-append (λ (p : Part Z). p.tried) (take k parts) (found.0 ∷ []),
        sum_by-cons (λ (p : Part Z). p.tried) found.0 [],
        before.1,
        one.count,
        tried_append s place (take (k * size) bs) (stretch_at bs size k),
        ap (λ (n : ℕ). tried_of s n (stretch_at bs size k)) count,
        ap (tried_of s place) arrivals_are,
      ),
    )
  where
    next_part : (ps : List (Part Z)) (k : ℕ) (p : Part Z) → k < length ps → p ≡ get_or ps k p → take (suc k) ps ≡ take k ps ++ p ∷ []
    next_part ps k p lt is = ap (λ (n : ℕ). take n ps) one_more ∙ take_more ps k p lt ∙ ap (λ (x : Part Z). take k ps ++ x ∷ []) (sym is)
      where
        one_more : suc k ≡ k + 1
        one_more = omega arith

    row : (k size : ℕ) → suc k * size ≡ k * size + size
    row k size = suc-mul k size

    whole_front : (k size : ℕ) (bs : List Arrival) → k * size ≤ length bs → length (take (k * size) bs) ≡ k * size
    whole_front k size bs le = omega (arith, length-take (k * size) bs)

-- a block's parts are all put into a layer, or some of them are and it has too many members
pub block_grows : {Z : Type 0} (s : SpaceContent) (place size : ℕ) (bs old new : List Arrival) (parts : List (Part Z)) (count count' most : ℕ) (fits : Bool) → AreParts s place size bs parts
    → TakesParts parts old count new count' most fits → GrowsBy s place bs old count new count' most fits
block_grows s place size bs old new parts count count' most true are h =
    let all = parts_grow s place size (length parts) bs old parts are (omega arith) h.0.whole in
    let parts_are : take (length parts) parts ≡ parts = take_all (length parts) parts (omega arith) in
    let bs_are : take (length parts * size) bs ≡ bs = take_all (length parts * size) bs are.all in (
      h.0.keys ∙ all.0 ∙ ap (grown_arrivals s old place) bs_are,
      h.1 ∙ ap (λ (n : ℕ). count + n) (ap listed_of (sym parts_are) ∙ all.1 ∙ ap (tried_of s place) bs_are),
      h.2,
    )
block_grows s place size bs old new parts count count' most false are h =
    let some = parts_grow s place size h.0 bs old parts are h.1.within h.1.whole in
    let keys : new ≡ grown_arrivals s old place (take (h.0 * size) bs) = h.1.keys ∙ some.0 in
    (h.0 * size, omega (arith, ap length keys, h.2))

-- a block after those before it
pub blocks_grow : (s : SpaceContent) (place at end most : ℕ) (bs block now new : List Arrival) (count count' : ℕ) → at ≤ end → end ≤ length bs → block ≡ take (end - at) (drop at bs)
    → now ≡ grown_arrivals s [] place (take at bs) → count ≡ tried_of s place (take at bs) → GrowsBy s (place + at) block now count new count' most true
    → (new ≡ grown_arrivals s [] place (take end bs)) × (count' ≡ tried_of s place (take end bs)) × (length new ≤ most)
blocks_grow s place at end most bs block now new count count' from to is keys counted h =
    let whole : length (take at bs) ≡ at = omega (arith, length-take at bs) in
    let all : take end bs ≡ take at bs ++ block =
    ap (λ (n : ℕ). take n bs) (ends at end from) ∙ take-add at (end - at) bs ∙ ap (λ (xs : List Arrival). take at bs ++ xs) (sym is) in (
      h.0
          ∙ ap (λ (ks : List Arrival). grown_arrivals s ks (place + at) block) keys
          ∙ ap (λ (n : ℕ). grown_arrivals s (grown_arrivals s [] place (take at bs)) (place + n) block) (sym whole)
          ∙ sym (grown_append s (take at bs) block [] place)
          ∙ ap (grown_arrivals s [] place) (sym all),
      h.1
          ∙ ap (λ (n : ℕ). n + tried_of s (place + at) block) counted
          ∙ ap (λ (n : ℕ). tried_of s place (take at bs) + tried_of s (place + n) block) (sym whole)
          ∙ sym (tried_append s place (take at bs) block)
          ∙ ap (tried_of s place) (sym all),
      h.2,
    )
  where
    ends : (at end : ℕ) → at ≤ end → end ≡ at + (end - at)
    ends at end le = omega arith

take_inside : (i n : ℕ) (xs : List Arrival) → i ≤ n → take i (take n xs) ≡ take i xs
take_inside zero n xs le = refl
take_inside (suc i) zero xs le = absurd (omega arith)
take_inside (suc i) (suc n) [] le = refl
take_inside (suc i) (suc n) (x ∷ xs) le = ap (λ (ys : List Arrival). x ∷ ys) (take_inside i n xs (omega arith))

-- some of the first elements are as many first elements, or all of them
cut_take : (j n : ℕ) (xs : List Arrival) → (i : ℕ) × (take j (take n xs) ≡ take i xs)
cut_take j n xs =
    elim (cases_lt j n) [
      | inl less ↦ (j, take_inside j n xs (omega arith))
      | inr more ↦ (n, take_all j (take n xs) (omega (arith, length-take n xs)))
    ]

-- a block with which the layer has too many members
pub blocks_over : (s : SpaceContent) (place at end most : ℕ) (bs block now new : List Arrival) (count count' : ℕ) → at ≤ end → end ≤ length bs → block ≡ take (end - at) (drop at bs)
    → now ≡ grown_arrivals s [] place (take at bs) → GrowsBy s (place + at) block now count new count' most false → IsOver s bs place most
blocks_over s place at end most bs block now new count count' from to is keys h =
    let whole : length (take at bs) ≡ at = omega (arith, length-take at bs) in
    let cut = cut_take h.0 (end - at) (drop at bs) in
    let part : take h.0 block ≡ take cut.0 (drop at bs) = ap (take h.0) is ∙ cut.1 in
    let all : take (at + cut.0) bs ≡ take at bs ++ take h.0 block = take-add at cut.0 bs ∙ ap (λ (xs : List Arrival). take at bs ++ xs) (sym part) in
    let same : grown_arrivals s now (place + at) (take h.0 block) ≡ grown_arrivals s [] place (take (at + cut.0) bs) =
    ap (λ (ks : List Arrival). grown_arrivals s ks (place + at) (take h.0 block)) keys
    ∙ ap (λ (n : ℕ). grown_arrivals s (grown_arrivals s [] place (take at bs)) (place + n) (take h.0 block)) (sym whole)
    ∙ sym (grown_append s (take at bs) (take h.0 block) [] place)
    ∙ ap (grown_arrivals s [] place) (sym all) in
    (at + cut.0, omega (arith, ap length same, h.1))

-- ---- parts that are put into a layer

pub no_parts : {Z : Type 0} (parts : List (Part Z)) (old : List Arrival) → TakesFirst parts old old 0
no_parts parts old = record { within = omega arith; whole = λ i d lt. absurd (omega arith); keys = refl }

pub first_parts : {Z : Type 0} (parts : List (Part Z)) (old now new : List Arrival) (k : ℕ) (p : Part Z) → k < length parts → p ≡ get_or parts k p → p.whole ≡ true
    → new ≡ insert_all are_same_arrivals now p.found.keys → TakesFirst parts old now k → TakesFirst parts old new (k + 1)
first_parts {Z} parts old now new k p lt is whole keys h = record {
  within = omega arith;
  whole = λ i d less.
      elim (cases_lt i k) [
        | inl before ↦ h.whole i d before
        | inr after ↦ subst (λ (n : ℕ). (slice_index_or parts n d).whole ≡ true) (here i after less) (ap (λ (q : Part Z). q.whole) (sym (element d)) ∙ whole)
      ];
  keys = keys
      ∙ ap (λ (ks : List Arrival). insert_all are_same_arrivals ks p.found.keys) h.keys
      ∙ sym (fold_push (λ (ks : List Arrival) (q : Part Z). insert_all are_same_arrivals ks q.found.keys) old (take k parts) p)
      ∙ ap (with_parts old) taken;
}
  where
    here : (i : ℕ) → k ≤ i → i < k + 1 → k ≡ i
    here i from to = omega arith

    element : (d : Part Z) → p ≡ get_or parts k d
    element d = is ∙ get_or_default parts k p d lt

    taken : take k parts ++ p ∷ [] ≡ take (k + 1) parts
    taken = ap (λ (x : Part Z). take k parts ++ x ∷ []) is ∙ sym (take_more parts k p lt)

pub one_part_counts : {Z : Type 0} (parts : List (Part Z)) (k : ℕ) (p : Part Z) (old now new : ℕ) → k < length parts → p ≡ get_or parts k p → new ≡ now + p.tried → now ≡ old + listed_of (take k parts)
    → new ≡ old + listed_of (take (k + 1) parts)
one_part_counts {Z} parts k p old now new lt is e h =
    omega (
      arith,
      e,
      h,
      ap listed_of taken,
      sum_by-append (λ (q : Part Z). q.tried) (take k parts) (p ∷ []),
      sum_by-cons (λ (q : Part Z). q.tried) p [],
    )
  where
    taken : take (k + 1) parts ≡ take k parts ++ p ∷ []
    taken = take_more parts k p lt ∙ ap (λ (x : Part Z). take k parts ++ x ∷ []) (sym is)

pub all_parts : {Z : Type 0} (parts : List (Part Z)) (old new : List Arrival) (k count count' most : ℕ) → k ≡ length parts → TakesFirst parts old new k → count' ≡ count + listed_of (take k parts) → length new ≤ most
    → TakesParts parts old count new count' most true
all_parts {Z} parts old new k count count' most all first counted fits = (
  subst (TakesFirst parts old new) all first,
  counted ∙ ap (λ (xs : List (Part Z)). count + listed_of xs) (take_all k parts (omega arith)),
  fits,
)
