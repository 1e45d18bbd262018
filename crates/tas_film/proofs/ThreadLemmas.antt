-- What holds of the first item and of those after it holds of all, and the other way round. `P at x` may say that a call is allowed, `R at x y` what it leaves.
use Rattle.std.proofs.Common.{◌≡◌, ℕ, zero, suc, ◌+◌, ◌<◌, List, ◌∷◌, length, get_or, sym, subst, arith, add-zero}

pub allowed_first : {T : Type 0} (P : ℕ → T → Type 0) (at : ℕ) (items : List T) (x : T) (xs : List T) → items ≡ x ∷ xs → ((k : ℕ) (d : T) → k < length items → P (at + k) (get_or items k d)) → P at x
allowed_first {T = T} P at items x xs is all =
    let here = subst (λ (l : List T). (k : ℕ) (d : T) → k < length l → P (at + k) (get_or l k d)) is all in
    subst (λ (n : ℕ). P n x) (add-zero at) (here 0 x (omega arith))

pub allowed_others : {T : Type 0} (P : ℕ → T → Type 0) (at : ℕ) (items : List T) (x : T) (xs : List T) → items ≡ x ∷ xs → ((k : ℕ) (d : T) → k < length items → P (at + k) (get_or items k d))
    → (k : ℕ) (d : T) → k < length xs → P (at + 1 + k) (get_or xs k d)
allowed_others {T = T} P at items x xs is all k d lt =
    let here = subst (λ (l : List T). (j : ℕ) (e : T) → j < length l → P (at + j) (get_or l j e)) is all in
    let next : at + suc k ≡ at + 1 + k = omega arith in
    subst (λ (n : ℕ). P n (get_or xs k d)) next (here (suc k) d (omega arith))

left_more : {T : Type 0} (R : ℕ → T → T → Type 0) (at : ℕ) (x y : T) (xs ys : List T) → R at x y → ((k : ℕ) (d : T) → k < length xs → R (at + 1 + k) (get_or xs k d) (get_or ys k d))
    → (k : ℕ) (d : T) → k < length (x ∷ xs) → R (at + k) (get_or (x ∷ xs) k d) (get_or (y ∷ ys) k d)
left_more R at x y xs ys one rest zero d lt = subst (λ (n : ℕ). R n x y) (sym (add-zero at)) one
left_more R at x y xs ys one rest (suc k) d lt =
    let next : at + 1 + k ≡ at + suc k = omega arith in
    subst (λ (n : ℕ). R n (get_or xs k d) (get_or ys k d)) next (rest k d (omega arith))

pub left_all : {T : Type 0} (R : ℕ → T → T → Type 0) (at : ℕ) (items : List T) (x y : T) (xs ys : List T) → items ≡ x ∷ xs → R at x y
    → ((k : ℕ) (d : T) → k < length xs → R (at + 1 + k) (get_or xs k d) (get_or ys k d))
    → (k : ℕ) (d : T) → k < length items → R (at + k) (get_or items k d) (get_or (y ∷ ys) k d)
left_all {T = T} R at items x y xs ys is one rest =
    subst (λ (l : List T). (k : ℕ) (d : T) → k < length l → R (at + k) (get_or l k d) (get_or (y ∷ ys) k d)) (sym is) (left_more R at x y xs ys one rest)
