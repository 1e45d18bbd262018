-- A registry keeps its rule where a history is numbered.
use Rattle.std.proofs.Common.{◌≡◌, ℕ, ◌+◌, ◌<◌, ◌==◌, Bool, true, false, List, [], ◌∷◌, ◌++◌, length, refl, ap, sym, subst, arith, inl, length-append, None}
use Rattle.std.proofs.lemmas.List.{append-nil}
use Rattle.std.proofs.lemmas.Bool.Decides.{nat_tests}
use mathlib.Core.List.{IsPrefix}
use prog.Atomic.{either}
use Rattle.logbook.specs.Pages.{Cell, cell, keeps, no_nib, step, Moves, Goes}
use Rattle.tas_published.specs.declared.entry.Entry.{Entry}
use Rattle.tas_published.specs.Inside.Registry.{Numbered, CountsHistories, Numbers, latest}
use Rattle.tas_published.proofs.PrefixLemmas.{prefix_whole}

-- what the rule of versions leaves open: a client looks at nothing and keeps nothing
abbrev looks_at : {A : Type 0} → Numbered A → List (List (Entry A))
looks_at numbered = []

abbrev moves_on : {A : Type 0} → Numbered A → Numbered A → ℕ → Type 0
moves_on before after answer = Unit {0}

-- the number after an expected one, where that one is found
abbrev next_of : ℕ → ℕ → ℕ
next_of expected found = either (found == expected) (expected + 1) found

-- the exchange, at a registry with these histories
abbrev Exchange : {A : Type 0} → Numbered A → List (Entry A) → ℕ → List Cell → Numbered A → Type 0
Exchange known entries expected cells numbered =
    Goes CountsHistories looks_at moves_on 0 (known, (no_nib, None)) (next_of expected) (Numbers (step 0 expected (expected + 1) entries) (known, (no_nib, None))) cells numbered

counted : {A : Type 0} (numbered more : Numbered A) (n : ℕ) → n ≡ length (numbered ++ more) → CountsHistories ((n, true) ∷ (0, true) ∷ []) (numbered ++ more)
counted numbered more n is = record { counter = ap (λ (k : ℕ). (k, true) ∷ (0, true) ∷ []) is }

-- where the number is the expected one, the history comes directly after those that are known: they are all there are
numbers_next : {A : Type 0} (numbered known : Numbered A) (entries : List (Entry A)) (expected : ℕ) → length known ≡ expected → IsPrefix known numbered → (length numbered == expected) ≡ true
    → Exchange known entries expected ((length numbered, true) ∷ (0, true) ∷ []) numbered
numbers_next numbered known entries expected size begins is =
    let all : known ≡ numbered = prefix_whole known numbered begins (grind (arith, nat_tests)) in
    let expected_is : length numbered ≡ expected = grind (arith, nat_tests) in
    let next : next_of expected (length numbered) ≡ length (numbered ++ entries ∷ []) = rw is (omega (arith, length-append numbered (entries ∷ []))) in
    (keeps, entries ∷ [], None, tt, counted numbered (entries ∷ []) _ next, inl (refl, refl), rw is (ap (λ (xs : Numbered _). xs ++ entries ∷ []) (sym all)))

-- where it is another, nothing is numbered, and the caller has learnt that many
finds_another : {A : Type 0} (numbered known : Numbered A) (entries : List (Entry A)) (expected : ℕ) → (length numbered == expected) ≡ false
    → Exchange known entries expected ((length numbered, true) ∷ (0, true) ∷ []) numbered
finds_another numbered known entries expected is =
    let same : numbered ++ [] ≡ numbered = append-nil numbered in
    let stays : next_of expected (length numbered) ≡ length (numbered ++ []) = rw is (ap length (sym same)) in
    (keeps, [], None, tt, counted numbered [] _ stays, inl (refl, refl), rw is (ap length same))

exchange_of : {A : Type 0} (numbered known : Numbered A) (entries : List (Entry A)) (expected : ℕ) → length known ≡ expected → IsPrefix known numbered → (b : Bool) → (length numbered == expected) ≡ b
    → Exchange known entries expected ((length numbered, true) ∷ (0, true) ∷ []) numbered
exchange_of numbered known entries expected size begins true is = numbers_next numbered known entries expected size begins is
exchange_of numbered known entries expected size begins false is = finds_another numbered known entries expected is

-- whatever the registry has by then, the exchange keeps its rule
pub exchange_keeps : {A : Type 0} (known : Numbered A) (entries : List (Entry A)) (expected : ℕ) → length known ≡ expected
    → Moves CountsHistories looks_at moves_on 0 (known, (no_nib, None)) (next_of expected) (Numbers (step 0 expected (expected + 1) entries) (known, (no_nib, None)))
exchange_keeps known entries expected size cells numbered kept begins away =
    let Can : List Cell → Type 0 = λ c. (0 < length c) × ((cell c 0).1 ≡ true) × Exchange known entries expected c numbered in
    subst Can (sym kept.counter) (omega arith, refl, exchange_of numbered known entries expected size begins (length numbered == expected) refl)

pub latest-push : {A : Type 0} (numbered : Numbered A) (entries : List (Entry A)) → latest (numbered ++ entries ∷ []) ≡ entries
latest-push [] entries = refl
latest-push (first ∷ []) entries = refl
latest-push (first ∷ second ∷ more) entries = latest-push (second ∷ more) entries
