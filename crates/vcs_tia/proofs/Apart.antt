-- Words without a bit, and rows without a pixel in common.
use Rattle.std.proofs.Common.{◌≡◌, ◌∙◌, ◌/◌, ◌%◌, ◌<◌, ◌≢◌, ⊎_elim, ◌&&◌, sym, ap, ℕ, zero, suc, List, false, get_or, bit_and, bit_or, arith}
use Rattle.std.proofs.lemmas.Bool.{cases_eq}
use Rattle.std.proofs.lemmas.Nat.{le_or_l, le_or_r}
use Rattle.vcs_tia.specs.Units.{has_bit}
use Rattle.vcs_tia.specs.Inside.Rows.{row_bit}
use Rattle.vcs_tia.proofs.Bits.{has_bit-zero, has_bit-and}

pub left_zero : (a b : ℕ) → bit_or a b ≡ 0 → a ≡ 0
left_zero a b none = omega (arith, le_or_l a b)

pub right_zero : (a b : ℕ) → bit_or a b ≡ 0 → b ≡ 0
right_zero a b none = omega (arith, le_or_r a b)

-- the pixels that words of two rows have in common
abbrev pub common : List ℕ → List ℕ → ℕ → ℕ
common v w j = bit_and (get_or v j 0) (get_or w j 0)

abbrev pub common_to : List ℕ → List ℕ → ℕ → ℕ
common_to v w zero = common v w 0
common_to v w (suc j) = bit_or (common_to v w j) (common v w (suc j))

none_common : (v w : List ℕ) (n : ℕ) → common_to v w n ≡ 0 → (j : ℕ) → j < suc n → common v w j ≡ 0
none_common v w zero none zero h = none
none_common v w zero none (suc j) h = absurd (omega arith)
none_common v w (suc n) none j h =
    ⊎_elim
    (λ last. ap (common v w) last ∙ right_zero (common_to v w n) (common v w (suc n)) none)
    (λ other. none_common v w n (left_zero (common_to v w n) (common v w (suc n)) none) j (let apart : j ≢ suc n = other in omega arith))
    (cases_eq j (suc n))

pub rows_apart : (v w : List ℕ) → common_to v w 4 ≡ 0 → (x : ℕ) → x < 160 → (row_bit v x && row_bit w x) ≡ false
rows_apart v w none x inside =
    sym (has_bit-and (get_or v (x / 32) 0) (get_or w (x / 32) 0) (x % 32)) ∙ ap (λ n. has_bit n (x % 32)) (none_common v w 4 none (x / 32) (omega arith)) ∙ has_bit-zero (x % 32)
