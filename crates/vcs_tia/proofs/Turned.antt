-- Pixels and their copies as one number, cut into the five words of a row.
use Rattle.std.proofs.Common.{◌≡◌, ◌≢◌, ◌∙◌, ◌+◌, ◌-◌, ◌*◌, ◌/◌, ◌%◌, ◌^◌, ◌<◌, ◌≤◌, ◌||◌, ◌&&◌, sym, ap, refl, subst, ⊎_elim, ℕ, List, [], ◌∷◌, Bool, true, false, ltb, bit_or, get_or, arith}
use Rattle.std.proofs.lemmas.Bool.{cases_lt, cases_eq, and_parts, ltb-true}
use Rattle.std.proofs.lemmas.Nat.{shl_whole}
use Rattle.std.proofs.Math.Pow.{pow_mono, shl_lt}
use Rattle.std.specs.List.{list_any}
use Rattle.vcs_tia.specs.Units.{has_bit}
use Rattle.vcs_tia.specs.Objects.{distance, copy_offsets}
use Rattle.vcs_tia.specs.Inside.Rows.{row_bit}
use Rattle.vcs_tia.specs.declared.units.Copies.{Copies}
use Rattle.vcs_tia.specs.declared.units.Copies.TheVariants.{One, TwoClose, TwoMedium, ThreeClose, TwoWide, DoubleSize, ThreeMedium, QuadSize}
use Rattle.vcs_tia.proofs.Bits.{has_bit-or, has_bit_above, has_bit-zero, has_bit-shl, has_bit-shl_below}

-- ---- copies
-- a copy so far from the first one
pub copy_bit : (p o q : ℕ) → p < 2 ^ 32 → o ≤ 64 → q < 160 → has_bit (p * 2 ^ o % 2 ^ 128) q ≡ has_bit p ((q + 160 - o) % 160)
copy_bit p o q small near inside =
    ap (λ n. has_bit n q) (shl_whole p 32 o 128 small (omega arith))
    ∙ ⊎_elim
    (λ before. has_bit-shl_below p o q before ∙ sym (has_bit_above p 32 ((q + 160 - o) % 160) small (omega arith)))
    (λ past. has_bit-shl p o q past ∙ (let at : q - o ≡ (q + 160 - o) % 160 = omega arith in ap (has_bit p) at))
    (cases_lt q o)

pub copy_below : (p o : ℕ) → p < 2 ^ 32 → o ≤ 64 → p * 2 ^ o % 2 ^ 128 < 2 ^ 96
copy_below p o small near =
    let whole = shl_whole p 32 o 128 small (omega arith) in
    let product : p * 2 ^ o < 2 ^ (32 + o) = shl_lt 32 o small in
    let power : 2 ^ (32 + o) ≤ 2 ^ 96 = pow_mono (let fits : 32 + o ≤ 96 = omega arith in fits) in
    subst (λ v. v < 2 ^ 96) (sym whole) (lt_le p power product)
  where
    lt_le : (p : ℕ) {a b c : ℕ} → b ≤ c → a < b → a < c
    lt_le p h k = omega arith

first_bit : (p q : ℕ) → q < 160 → has_bit p q ≡ has_bit p ((q + 160 - 0) % 160)
first_bit p q inside = let at : q ≡ (q + 160 - 0) % 160 = omega arith in ap (has_bit p) at

two : (a b : Bool) → (a || b) ≡ (a || (b || false))
two true b = refl
two false true = refl
two false false = refl

three : (a b c : Bool) → ((a || b) || c) ≡ (a || (b || (c || false)))
three true b c = refl
three false true c = refl
three false false true = refl
three false false false = refl

pub one_copy : (p q : ℕ) → q < 160 → has_bit p q ≡ list_any (λ o. has_bit p ((q + 160 - o) % 160)) (0 ∷ [])
one_copy p q inside = first_bit p q inside ∙ one (has_bit p ((q + 160 - 0) % 160))
  where
    one : (a : Bool) → a ≡ (a || false)
    one true = refl
    one false = refl

pub two_copies : (p a q : ℕ) → p < 2 ^ 32 → a ≤ 64 → q < 160 → has_bit (bit_or p (p * 2 ^ a % 2 ^ 128)) q ≡ list_any (λ o. has_bit p ((q + 160 - o) % 160)) (0 ∷ a ∷ [])
two_copies p a q small near inside =
    has_bit-or p (p * 2 ^ a % 2 ^ 128) q
    ∙ ap (λ x. x || has_bit (p * 2 ^ a % 2 ^ 128) q) (first_bit p q inside)
    ∙ ap (λ x. has_bit p ((q + 160 - 0) % 160) || x) (copy_bit p a q small near inside)
    ∙ two (has_bit p ((q + 160 - 0) % 160)) (has_bit p ((q + 160 - a) % 160))

pub three_copies : (p a b q : ℕ) → p < 2 ^ 32 → a ≤ 64 → b ≤ 64 → q < 160 →
    has_bit (bit_or (bit_or p (p * 2 ^ a % 2 ^ 128)) (p * 2 ^ b % 2 ^ 128)) q ≡ list_any (λ o. has_bit p ((q + 160 - o) % 160)) (0 ∷ a ∷ b ∷ [])
three_copies p a b q small near far inside =
    has_bit-or (bit_or p (p * 2 ^ a % 2 ^ 128)) (p * 2 ^ b % 2 ^ 128) q
    ∙ ap (λ x. x || has_bit (p * 2 ^ b % 2 ^ 128) q)
    (has_bit-or p (p * 2 ^ a % 2 ^ 128) q
    ∙ ap (λ x. x || has_bit (p * 2 ^ a % 2 ^ 128) q) (first_bit p q inside)
    ∙ ap (λ x. has_bit p ((q + 160 - 0) % 160) || x) (copy_bit p a q small near inside))
    ∙ ap (λ x. (has_bit p ((q + 160 - 0) % 160) || has_bit p ((q + 160 - a) % 160)) || x) (copy_bit p b q small far inside)
    ∙ three (has_bit p ((q + 160 - 0) % 160)) (has_bit p ((q + 160 - a) % 160)) (has_bit p ((q + 160 - b) % 160))

-- two tests that agree on short distances agree on the copies
abbrev all_near : List ℕ → Bool
all_near [] = true
all_near (o ∷ os) = ltb o 65 && all_near os

any_alike : (f g : ℕ → Bool) → ((o : ℕ) → o < 65 → f o ≡ g o) → (os : List ℕ) → all_near os ≡ true → list_any f os ≡ list_any g os
any_alike f g same [] near = refl
any_alike f g same (o ∷ os) near =
    let parts = and_parts (ltb o 65) (all_near os) near in
    ap (λ x. x || list_any f os) (same o (ltb-true o 65 parts.0)) ∙ ap (λ x. g o || x) (any_alike f g same os parts.1)

copies_near : (k : Copies) → all_near (copy_offsets k) ≡ true
copies_near One = refl
copies_near TwoClose = refl
copies_near TwoMedium = refl
copies_near ThreeClose = refl
copies_near TwoWide = refl
copies_near DoubleSize = refl
copies_near ThreeMedium = refl
copies_near QuadSize = refl

pub from_place : (p x place : ℕ) (k : Copies) → place < 160 → x < 160 →
    list_any (λ o. has_bit p ((distance x place 0 + 160 - o) % 160)) (copy_offsets k) ≡ list_any (λ o. has_bit p (distance x place o)) (copy_offsets k)
from_place p x place k low inside =
    any_alike (λ o. has_bit p ((distance x place 0 + 160 - o) % 160)) (λ o. has_bit p (distance x place o))
    (λ o near. let at : ((x + 320 - place - 0) % 160 + 160 - o) % 160 ≡ (x + 320 - place - o) % 160 = omega arith in ap (has_bit p) at)
    (copy_offsets k) (copies_near k)

-- ---- words
-- pixel x of a row whose words begin at number `base` with those of moved pixels
pub turned_bit : (all s base place x w0 w1 w2 w3 : ℕ) (words : List ℕ) → all < 2 ^ 96 → s < 32 → base < 5 → place ≡ 32 * base + s → x < 160 →
    get_or words ((base + 0) % 5) 0 ≡ w0 → get_or words ((base + 1) % 5) 0 ≡ w1 → get_or words ((base + 2) % 5) 0 ≡ w2 → get_or words ((base + 3) % 5) 0 ≡ w3 →
    get_or words ((base + 4) % 5) 0 ≡ 0 →
    ((i : ℕ) → i < 32 → has_bit w0 i ≡ has_bit (all * 2 ^ s % 2 ^ 128) (0 + i)) →
    ((i : ℕ) → i < 32 → has_bit w1 i ≡ has_bit (all * 2 ^ s % 2 ^ 128) (32 + i)) →
    ((i : ℕ) → i < 32 → has_bit w2 i ≡ has_bit (all * 2 ^ s % 2 ^ 128) (64 + i)) →
    ((i : ℕ) → i < 32 → has_bit w3 i ≡ has_bit (all * 2 ^ s % 2 ^ 128) (96 + i)) →
    row_bit words x ≡ has_bit all (distance x place 0)
turned_bit all s base place x w0 w1 w2 w3 words small low few at inside e0 e1 e2 e3 e4 b0 b1 b2 b3 =
    ⊎_elim (λ n0. in_word 0 w0 (omega arith) n0 e0 b0)
    (λ m0. ⊎_elim (λ n1. in_word 1 w1 (omega arith) n1 e1 b1)
    (λ m1. ⊎_elim (λ n2. in_word 2 w2 (omega arith) n2 e2 b2)
    (λ m2. ⊎_elim (λ n3. in_word 3 w3 (omega arith) n3 e3 b3)
    (λ m3. empty (last number (omega arith) m0 m1 m2 m3))
    (cases_eq number 3)) (cases_eq number 2)) (cases_eq number 1)) (cases_eq number 0)
  where
    number : ℕ
    number = (x / 32 + 5 - base) % 5

    last : (n : ℕ) → n < 5 → n ≢ 0 → n ≢ 1 → n ≢ 2 → n ≢ 3 → n ≡ 4
    last n below a b c d = omega arith

    word_is : (k w : ℕ) → k < 5 → (x / 32 + 5 - base) % 5 ≡ k → get_or words ((base + k) % 5) 0 ≡ w → get_or words (x / 32) 0 ≡ w
    word_is k w below is e = let j : x / 32 ≡ (base + k) % 5 = omega arith in ap (λ m. get_or words m 0) j ∙ e

    in_word : (k w : ℕ) → k < 4 → (x / 32 + 5 - base) % 5 ≡ k → get_or words ((base + k) % 5) 0 ≡ w →
        ((i : ℕ) → i < 32 → has_bit w i ≡ has_bit (all * 2 ^ s % 2 ^ 128) (32 * k + i)) → row_bit words x ≡ has_bit all (distance x place 0)
    in_word k w below is e bits =
        ap (λ n. has_bit n (x % 32)) (word_is k w (omega arith) is e)
        ∙ bits (x % 32) (omega arith)
        ∙ ap (λ n. has_bit n (32 * k + x % 32)) (shl_whole all 96 s 128 small (omega arith))
        ∙ ⊎_elim
        (λ before. has_bit-shl_below all s (32 * k + x % 32) before ∙ sym (has_bit_above all 96 ((x + 320 - place - 0) % 160) small (omega arith)))
        (λ past. has_bit-shl all s (32 * k + x % 32) past ∙ (let far : 32 * k + x % 32 - s ≡ (x + 320 - place - 0) % 160 = omega arith in ap (has_bit all) far))
        (cases_lt (32 * k + x % 32) s)

    empty : (x / 32 + 5 - base) % 5 ≡ 4 → row_bit words x ≡ has_bit all (distance x place 0)
    empty is =
        ap (λ n. has_bit n (x % 32)) (word_is 4 0 (omega arith) is e4)
        ∙ has_bit-zero (x % 32)
        ∙ sym (has_bit_above all 96 ((x + 320 - place - 0) % 160) small (omega arith))
