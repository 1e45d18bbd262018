-- Tables with an entry for each byte.
use Rattle.std.proofs.Common.{◌≡◌, ◌∙◌, ◌+◌, ◌<◌, ap, sym, add-zero, zero-add, ℕ, zero, suc, List, [], ◌∷◌, length, Bool, true, eqb, ltb, ◌&&◌, get_or, eqb-true, arith}
use Rattle.std.proofs.lemmas.Bool.{and_parts, ltb-true}

-- a test holds of each entry and its number
abbrev pub all_entries : (ℕ → ℕ → Bool) → ℕ → List ℕ → Bool
all_entries p k [] = true
all_entries p k (e ∷ es) = p k e && all_entries p (suc k) es

pub entry : (p : ℕ → ℕ → Bool) (k : ℕ) (table : List ℕ) → all_entries p k table ≡ true → (n : ℕ) → n < length table → p (k + n) (get_or table n 0) ≡ true
entry p k [] all n below = absurd (omega arith)
entry p k (e ∷ es) all zero below = ap (λ m. p m e) (add-zero k) ∙ (and_parts (p k e) (all_entries p (suc k) es) all).0
entry p k (e ∷ es) all (suc n) below =
    let next : k + suc n ≡ suc k + n = omega arith in
    ap (λ m. p m (get_or es n 0)) next ∙ entry p (suc k) es (and_parts (p k e) (all_entries p (suc k) es) all).1 n (omega arith)

-- each entry is what a function makes of its number
pub entry_is : (f : ℕ → ℕ) (table : List ℕ) → all_entries (λ k e. eqb e (f k)) 0 table ≡ true → length table ≡ 256 → (n : ℕ) → n < 256 → get_or table n 0 ≡ f n
entry_is f table all whole n below = eqb-true (get_or table n 0) (f n) (ap (λ m. eqb (get_or table n 0) (f m)) (sym (zero-add n)) ∙ entry (λ k e. eqb e (f k)) 0 table all n (omega arith))

pub entry_below : (bound : ℕ) (table : List ℕ) → all_entries (λ k e. ltb e bound) 0 table ≡ true → length table ≡ 256 → (n : ℕ) → n < 256 → get_or table n 0 < bound
entry_below bound table all whole n below = ltb-true (get_or table n 0) bound (entry (λ k e. ltb e bound) 0 table all n (omega arith))
