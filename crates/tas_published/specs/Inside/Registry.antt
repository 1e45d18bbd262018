-- The registry of versions: histories in the order in which they were numbered.
use Rattle.std.specs.Prelude.{ℕ, ◌≡◌, ◌==◌, true, List, [], ◌∷◌, ◌++◌, length, MatchBool}
use Rattle.logbook.specs.Pages.{Cell, Step, View, Book, Named}
use Rattle.tas_published.specs.declared.entry.Entry.{Entry}

-- the histories that are numbered so far: the first has number 1
abbrev pub Numbered : Type 0 → Type 0
Numbered A = List (List (Entry A))

-- the registry's counter says how many histories are numbered; the other of its two cells isn't used
pub record CountsHistories {A : Type 0} (cells : List Cell) (numbered : Numbered A) : Type 0 where
  pub counter : cells ≡ (length numbered, true) ∷ (0, true) ∷ []

-- the counter of this registry
abbrev pub counter_of : Book → Named
counter_of b = record { tracked = true; key = 0; book = b }

-- what an exchange of the counter's number for the next one returns: where the number that it found was the expected one, the history that was asked for is numbered,
-- directly after all those that the caller knew; else the caller has learnt as many histories as it found
abbrev pub Numbers : {A : Type 0} → Step (List (Entry A)) → View (List (Entry A)) ℕ → ℕ → View (List (Entry A)) ℕ → Type 0
Numbers step before found after = MatchBool (found == step.old) (after.0 ≡ before.0 ++ step.ask ∷ []) (length after.0 ≡ found)

-- the history that was numbered last; before the first one the empty history
abbrev pub latest : {A : Type 0} → Numbered A → List (Entry A)
latest [] = []
latest (entries ∷ []) = entries
latest (entries ∷ next ∷ more) = latest (next ∷ more)
