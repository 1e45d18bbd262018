-- Answers with a text for each of some numbers.
use Rattle.std.proofs.Common.{◌≡◌, ℕ, ◌+◌, ◌<◌, List, ◌++◌, length, take, get_or, sym, ap, ◌∙◌}
use Rattle.std.proofs.lemmas.List.{flat_map_more, take_more}
use Rattle.std.specs.List.{flat_map}

pub each_more : (f : ℕ → List ℕ) (out now next : List ℕ) (xs : List ℕ) (i : ℕ) → i < length xs → now ≡ out ++ flat_map f (take i xs) → next ≡ now ++ f (get_or xs i 0) → next ≡ out ++ flat_map f (take (i + 1) xs)
each_more f out now next xs i lt so_far is =
    is
    ∙ ap (λ (bs : List ℕ). bs ++ f (get_or xs i 0)) so_far
    ∙ flat_map_more f out (take i xs) (get_or xs i 0)
    ∙ ap (λ (ys : List ℕ). out ++ flat_map f ys) (sym (take_more xs i 0 lt))
