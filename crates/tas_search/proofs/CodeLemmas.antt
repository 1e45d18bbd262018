-- Steps of the loops over choices, arrivals and steps.
use Rattle.std.proofs.Common.{◌≡◌, ℕ, zero, suc, ◌+◌, ◌-◌, ◌<◌, true, false, List, [], ◌∷◌, ◌++◌, length, take, reverse, get_or, Option, Some, None, refl, sym, ap, ◌∙◌, arith, Bool}
use Rattle.std.specs.Prelude.{is_some, slice_index_or, ◌||◌, if◌then◌else◌}
use Rattle.std.specs.List.{list_any}
use Rattle.std.proofs.lemmas.List.Folds.{list_any-append}
use Rattle.vcs_machine.specs.Equality.{are_same_machines, machines_decide}
use Rattle.std.proofs.lemmas.List.{take_more, map-append, reverse-append, append_assoc, append-nil, length-take}
use Rattle.vcs_cpu.specs.declared.halt.Halt.{Halt}
use Rattle.vcs_machine.specs.Machine.{Machine, unless_halted}
use Rattle.indexmap.specs.IndexSet.{insert_key, insert_all}
use Rattle.tas_search.specs.declared.arrival.Arrival.{Arrival}
use Rattle.tas_search.specs.declared.arrival.Step.{Step}
use Rattle.tas_search.specs.Space.{SpaceContent, after_choice}
use Rattle.tas_search.specs.Inside.Arrivals.{are_same_arrivals, arrivals_from, arrivals_of, arrival_at, grown_arrivals, no_step, path, steps_of}

pub halted_none : {A : Type 0} (h : Option Halt) (xs : List A) → is_some h ≡ true → unless_halted h xs [] ≡ []
halted_none None xs e = absurd cc
halted_none (Some x) xs e = refl

pub going_on : {A : Type 0} (h : Option Halt) (xs : List A) → is_some h ≡ false → unless_halted h xs [] ≡ xs
going_on None xs e = refl
going_on (Some x) xs e = absurd cc

-- k of n choices from number `low` on are played, and one more
pub choices_more : (s : SpaceContent) (m : Machine) (place low k n : ℕ) (next : List Arrival) → k < n
    → insert_all are_same_arrivals next (arrivals_from s m place (low + k) (n - k))
    ≡ insert_all are_same_arrivals (insert_key are_same_arrivals next (arrival_at (after_choice s m (low + k)) place (low + k))) (arrivals_from s m place (low + (k + 1)) (n - (k + 1)))
choices_more s m place low k n next lt =
    ap (λ (c : ℕ). insert_all are_same_arrivals next (arrivals_from s m place (low + k) c)) left
    ∙ ap (λ (i : ℕ). insert_all are_same_arrivals (insert_key are_same_arrivals next (arrival_at (after_choice s m (low + k)) place (low + k))) (arrivals_from s m place i (n - (k + 1)))) after
  where
    left : n - k ≡ suc (n - (k + 1))
    left = omega arith

    after : suc (low + k) ≡ low + (k + 1)
    after = omega arith

pub choices_none : (s : SpaceContent) (m : Machine) (place k n : ℕ) (next : List Arrival) → insert_all are_same_arrivals next (arrivals_from s m place k (n - n)) ≡ next
choices_none s m place k n next = ap (λ (c : ℕ). insert_all are_same_arrivals next (arrivals_from s m place k c)) left
  where
    left : n - n ≡ 0
    left = omega arith

pub grown_push : (s : SpaceContent) (xs next : List Arrival) (place : ℕ) (a : Arrival)
    → grown_arrivals s next place (xs ++ a ∷ []) ≡ insert_all are_same_arrivals (grown_arrivals s next place xs) (arrivals_of s a.state (place + length xs))
grown_push s [] next place a = ap (λ (p : ℕ). insert_all are_same_arrivals next (arrivals_of s a.state p)) here
  where
    here : place ≡ place + 0
    here = omega arith
grown_push s (x ∷ xs) next place a =
    grown_push s xs (insert_all are_same_arrivals next (arrivals_of s x.state place)) (suc place) a
    ∙ ap (λ (p : ℕ). insert_all are_same_arrivals (grown_arrivals s (insert_all are_same_arrivals next (arrivals_of s x.state place)) (suc place) xs) (arrivals_of s a.state p)) here
  where
    here : suc place + length xs ≡ place + suc (length xs)
    here = omega arith

-- one arrival more
pub grown_more : (s : SpaceContent) (bs now after : List Arrival) (place j : ℕ) (a : Arrival) → j < length bs → a ≡ get_or bs j a → now ≡ grown_arrivals s [] place (take j bs)
    → after ≡ insert_all are_same_arrivals now (arrivals_of s a.state (place + j)) → after ≡ grown_arrivals s [] place (take (j + 1) bs)
grown_more s bs now after place j a lt is e f =
    f
    ∙ ap (λ (ns : List Arrival). insert_all are_same_arrivals ns (arrivals_of s a.state (place + j))) e
    ∙ ap (λ (n : ℕ). insert_all are_same_arrivals (grown_arrivals s [] place (take j bs)) (arrivals_of s a.state (place + n))) count
    ∙ sym (grown_push s (take j bs) [] place a)
    ∙ ap (grown_arrivals s [] place) (ap (λ (x : Arrival). take j bs ++ x ∷ []) is ∙ sym (take_more bs j a lt))
  where
    count : j ≡ length (take j bs)
    count = omega (arith, length-take j bs)

pub steps_more : (old now after : List Step) (bs : List Arrival) (j : ℕ) (a : Arrival) → j < length bs → a ≡ get_or bs j a → now ≡ old ++ steps_of (take j bs) → after ≡ now ++ a.step ∷ []
    → after ≡ old ++ steps_of (take (j + 1) bs)
steps_more old now after bs j a lt is e f =
    f
    ∙ ap (λ (xs : List Step). xs ++ a.step ∷ []) e
    ∙ append_assoc old (steps_of (take j bs)) (a.step ∷ [])
    ∙ ap (λ (xs : List Step). old ++ xs)
    (sym (map-append (λ x. x.step) (take j bs) (a ∷ []))
    ∙ ap steps_of (ap (λ (x : Arrival). take j bs ++ x ∷ []) is ∙ sym (take_more bs j a lt))
    )

-- one step back
pub path_back : (parents : List Step) (depth k : ℕ) (step last : Step) (found : List ℕ) → k < depth → path parents (depth - k) step ++ reverse found ≡ path parents depth last
    → path parents (depth - (k + 1)) (slice_index_or parents step.parent no_step) ++ reverse (found ++ step.choice ∷ []) ≡ path parents depth last
path_back parents depth k step last found lt e =
    ap (λ (xs : List ℕ). path parents (depth - (k + 1)) (slice_index_or parents step.parent no_step) ++ xs) (reverse-append found (step.choice ∷ []))
    ∙ sym (append_assoc (path parents (depth - (k + 1)) (slice_index_or parents step.parent no_step)) (step.choice ∷ []) (reverse found))
    ∙ ap (λ (n : ℕ). path parents n step ++ reverse found) left
    ∙ e
  where
    left : suc (depth - (k + 1)) ≡ depth - k
    left = omega arith

pub path_over : (parents : List Step) (depth : ℕ) (step : Step) (found : List ℕ) → path parents (depth - depth) step ++ reverse found ≡ reverse found
path_over parents depth step found = ap (λ (n : ℕ). path parents n step ++ reverse found) left
  where
    left : depth - depth ≡ 0
    left = omega arith

-- one choice more, by what the code has at hand
pub choice_added : (s : SpaceContent) (m reached : Machine) (place low k n : ℕ) (now next final : List Arrival) → k < n → reached ≡ after_choice s m (low + k)
    → next ≡ insert_key are_same_arrivals now (arrival_at reached place (low + k))
    → insert_all are_same_arrivals now (arrivals_from s m place (low + k) (n - k)) ≡ final → insert_all are_same_arrivals next (arrivals_from s m place (low + (k + 1)) (n - (k + 1))) ≡ final
choice_added s m reached place low k n now next final lt at e inv =
    ap (λ (ks : List Arrival). insert_all are_same_arrivals ks (arrivals_from s m place (low + (k + 1)) (n - (k + 1))))
    (e ∙ ap (λ (x : Machine). insert_key are_same_arrivals now (arrival_at x place (low + k))) at)
    ∙ sym (choices_more s m place low k n now lt)
    ∙ inv

-- the same by what the code has at hand
pub path_back_at : (parents : List Step) (depth k : ℕ) (step last next : Step) (found pushed : List ℕ) → k < depth → next ≡ slice_index_or parents step.parent no_step
    → pushed ≡ found ++ step.choice ∷ [] → path parents (depth - k) step ++ reverse found ≡ path parents depth last
    → path parents (depth - (k + 1)) next ++ reverse pushed ≡ path parents depth last
path_back_at parents depth k step last next found pushed lt at is e =
    ap (λ (x : Step). path parents (depth - (k + 1)) x ++ reverse pushed) at
    ∙ ap (λ (xs : List ℕ). path parents (depth - (k + 1)) (slice_index_or parents step.parent no_step) ++ reverse xs) is
    ∙ path_back parents depth k step last found lt e

-- what was found is the whole path
pub path_found : (parents : List Step) (depth k : ℕ) (step last : Step) (found turned : List ℕ) → k ≡ depth → turned ≡ reverse found
    → path parents (depth - k) step ++ reverse found ≡ path parents depth last → turned ≡ path parents depth last
path_found parents depth k step last found turned all is e =
    is ∙ sym (path_over parents depth step found) ∙ ap (λ (n : ℕ). path parents (depth - n) step ++ reverse found) (sym all) ∙ e

-- before the first step back
pub path_first : (parents : List Step) (depth : ℕ) (last : Step) (found : List ℕ) → found ≡ [] → path parents (depth - 0) last ++ reverse found ≡ path parents depth last
path_first parents depth last found empty =
    ap (λ (xs : List ℕ). path parents (depth - 0) last ++ reverse xs) empty ∙ append-nil (path parents (depth - 0) last) ∙ ap (λ (n : ℕ). path parents n last) same
  where
    same : depth - 0 ≡ depth
    same = omega arith

-- ---- choices that reach the same

-- what was added is found
known_added : (a : Arrival) (b : Bool) (ks : List Arrival) → list_any (are_same_arrivals a) ks ≡ b → list_any (are_same_arrivals a) (if b then ks else ks ++ a ∷ []) ≡ true
known_added a true ks e = e
known_added a false ks e =
    list_any-append (are_same_arrivals a) ks (a ∷ [])
    ∙ ap (λ (t : Bool). list_any (are_same_arrivals a) ks || (t || false)) ((machines_decide a.state a.state).1 refl)
    ∙ either (list_any (are_same_arrivals a) ks)
  where
    either : (t : Bool) → (t || true) ≡ true
    either true = refl
    either false = refl

-- what is there already isn't added
none_added : (s : SpaceContent) (m same : Machine) (place : ℕ) (n k : ℕ) (ks : List Arrival) → list_any (λ o. are_same_machines same o.state) ks ≡ true
    → ((j : ℕ) → after_choice s m j ≡ same) → insert_all are_same_arrivals ks (arrivals_from s m place k n) ≡ ks
none_added s m same place zero k ks there alike = refl
none_added s m same place (suc n) k ks there alike =
    ap (λ (xs : List Arrival). insert_all are_same_arrivals xs (arrivals_from s m place (suc k) n))
    (ap (λ (t : Bool). if t then ks else ks ++ arrival_at (after_choice s m k) place k ∷ [])
    (ap (λ (x : Machine). list_any (λ o. are_same_machines x o.state) ks) (alike k) ∙ there))
    ∙ none_added s m same place n (suc k) ks there alike

-- where all choices reach the same, the first adds all
pub first_adds_all : (s : SpaceContent) (m reached : Machine) (place low n : ℕ) (now next : List Arrival) → 0 < n → reached ≡ after_choice s m low
    → next ≡ insert_key are_same_arrivals now (arrival_at reached place low)
    → ((j : ℕ) → after_choice s m j ≡ reached) → next ≡ insert_all are_same_arrivals now (arrivals_from s m place low n)
first_adds_all s m reached place low zero now next lt at e alike = absurd (omega arith)
first_adds_all s m reached place low (suc n) now next lt at e alike =
    sym (none_added s m reached place n (suc low) next there alike)
    ∙ ap (λ (ks : List Arrival). insert_all are_same_arrivals ks (arrivals_from s m place (suc low) n)) (e ∙ ap (λ (x : Machine). insert_key are_same_arrivals now (arrival_at x place low)) at)
  where
    there : list_any (λ o. are_same_machines reached o.state) next ≡ true
    there =
        ap (list_any (λ o. are_same_machines reached o.state)) e
        ∙ known_added (arrival_at reached place low) (list_any (are_same_arrivals (arrival_at reached place low)) now) now refl
