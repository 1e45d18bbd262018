-- The lanes of vectors of 32, and colours laid over others.
use Rattle.std.proofs.Common.{◌≡◌, ◌∙◌, ◌+◌, ◌*◌, ◌/◌, ◌%◌, ◌^◌, ◌<◌, sym, ap, refl, ℕ, zero, suc, List, [], ◌∷◌, length, map, get_or, replicate, false, cond, eqb, arith, bit_and, min, w8, inl, inr}
use Rattle.std.proofs.lemmas.Bool.{eqb-true, ne_eqb, eq-eqb, cases_eq}
use Rattle.std.proofs.lemmas.List.{get_or-map}
use Rattle.std.proofs.lemmas.Nat.Bits.{bit_at-lt, bit_at_and, bit_at-pow_same, bit_at-pow_other, same_from_bits}
use Rattle.std.proofs.lemmas.Simd.{tops_compared, get_or-sel_l, get_or-zip2, get_or-replicate, length-sel_l, get_or_narrower, Each1-replicate}
use Rattle.std.specs.Int.{bit_at}
use lib.Lanes.{zip2, sel_l, top, digits_l, number_l}
use Rattle.vcs_tia.specs.Units.{has_bit}
use Rattle.vcs_tia.specs.Inside.Words.{HasLanes}
use Rattle.vcs_tia.proofs.Bits.{all_below-at, bit_of_eight}

-- all lanes alike
pub splat_lanes : (colour : ℕ) → HasLanes (replicate 32 colour) (λ _. colour)
splat_lanes colour = record { all = refl; lanes = λ i below. get_or-replicate 32 i colour 0 below }

-- whether a number has a bit, by that bit alone
pub bit_alone : (v k : ℕ) → eqb (bit_and v (2 ^ k)) (2 ^ k) ≡ has_bit v k
bit_alone v k =
    elim (cases_eq (bit_at v k) 1) [
      | inl is ↦ eq-eqb _ _ (same_from_bits _ _ (λ m. bit_at_and v (2 ^ k) m ∙ one_bit is m)) ∙ sym (eq-eqb _ _ is)
      | inr isnt ↦ ne_eqb _ _ (other isnt) ∙ sym (ne_eqb _ _ isnt)
    ]
  where
    min-zero : (n : ℕ) → min n 0 ≡ 0
    min-zero n = omega arith

    one_bit : bit_at v k ≡ 1 → (m : ℕ) → min (bit_at v m) (bit_at (2 ^ k) m) ≡ bit_at (2 ^ k) m
    one_bit is m = elim (cases_eq m k) [
      | inl same ↦ (let one = bit_at-pow_same k in rw same (rw (is, one) refl))
      | inr apart ↦ (let none = bit_at-pow_other k m apart in rw none (min-zero (bit_at v m)))
    ]

    other : (bit_at v k ≡ 1 → ⊥) → bit_and v (2 ^ k) ≡ 2 ^ k → ⊥
    other isnt same =
        let one = bit_at-pow_same k in
        let both = bit_at_and v (2 ^ k) k in
        let least : bit_at (bit_and v (2 ^ k)) k ≡ bit_at (2 ^ k) k = ap (λ n. bit_at n k) same in
        let low = bit_at-lt v k in
        isnt (omega arith)

-- ---- a byte of a number, by its bits
bits_of_bytes : (k : ℕ) → k < 4 → 256 ^ k ≡ 2 ^ (8 * k)
bits_of_bytes zero below = refl
bits_of_bytes (suc zero) below = refl
bits_of_bytes (suc (suc zero)) below = refl
bits_of_bytes (suc (suc (suc zero))) below = refl
bits_of_bytes (suc (suc (suc (suc k)))) below = absurd (omega arith)

byte_bit : (v k m : ℕ) → k < 4 → m < 8 → has_bit (v / 256 ^ k % 256) m ≡ has_bit v (8 * k + m)
byte_bit v k m below bit = ap (λ b. eqb b 1) (ap (λ w. bit_at (v / w % 256) m) (bits_of_bytes k below) ∙ bit_of_eight v (8 * k) m bit)

-- the bytes of a word, over and over
abbrev bytes_of : ℕ → List ℕ
bytes_of word = digits_l 256 32 (number_l 4294967296 (replicate 8 word))

word_byte : (word b : ℕ) → word < 4294967296 → b < 4 → get_or (bytes_of word) b 0 ≡ word / 256 ^ b % 256
word_byte word b small below =
    let whole : 4 * 0 + b ≡ b = omega arith in
    ap (λ n. get_or (bytes_of word) n 0) (sym whole)
    ∙ get_or_narrower 4294967296 4 256 32 (replicate 8 word) 0 b refl (Each1-replicate (λ x. x < 4294967296) 8 word small) below (omega arith)

-- ---- for each of 32 bits the byte that it is in, and its bit in that byte
abbrev places : List ℕ
places = 0 ∷ 0 ∷ 0 ∷ 0 ∷ 0 ∷ 0 ∷ 0 ∷ 0 ∷ 1 ∷ 1 ∷ 1 ∷ 1 ∷ 1 ∷ 1 ∷ 1 ∷ 1 ∷ 2 ∷ 2 ∷ 2 ∷ 2 ∷ 2 ∷ 2 ∷ 2 ∷ 2 ∷ 3 ∷ 3 ∷ 3 ∷ 3 ∷ 3 ∷ 3 ∷ 3 ∷ 3 ∷ []

place_of : (i : ℕ) → i < 32 → get_or places i 0 ≡ i / 8
place_of i below = eqb-true _ _ (all_below-at (λ n. eqb (get_or places n 0) (n / 8)) 32 i refl below)

abbrev place_bits : List ℕ
place_bits = 1 ∷ 2 ∷ 4 ∷ 8 ∷ 16 ∷ 32 ∷ 64 ∷ 128 ∷ 1 ∷ 2 ∷ 4 ∷ 8 ∷ 16 ∷ 32 ∷ 64 ∷ 128 ∷ 1 ∷ 2 ∷ 4 ∷ 8 ∷ 16 ∷ 32 ∷ 64 ∷ 128 ∷ 1 ∷ 2 ∷ 4 ∷ 8 ∷ 16 ∷ 32 ∷ 64 ∷ 128 ∷ []

place_bit_of : (i : ℕ) → i < 32 → get_or place_bits i 0 ≡ 2 ^ (i % 8)
place_bit_of i below = eqb-true _ _ (all_below-at (λ n. eqb (get_or place_bits n 0) (2 ^ (n % 8))) 32 i refl below)

-- the byte of each bit
abbrev bytes_by_bit : ℕ → List ℕ
bytes_by_bit word = map (λ k. get_or (bytes_of word) k 0) places

byte_by_bit : (word i : ℕ) → word < 4294967296 → i < 32 → get_or (bytes_by_bit word) i 0 ≡ word / 256 ^ (i / 8) % 256
byte_by_bit word i small below =
    get_or-map (λ k. get_or (bytes_of word) k 0) places i 0 0 below
    ∙ ap (λ k. get_or (bytes_of word) k 0) (place_of i below)
    ∙ word_byte word (i / 8) small (omega arith)

-- a lane is all ones where two are equal
abbrev alike : ℕ → ℕ → ℕ
alike a b = cond (eqb a b) 255 0

-- a colour laid over the pixels that have a bit
pub laid_lanes : (word colour : ℕ) (pixels : List ℕ) → word < 4294967296 → length pixels ≡ 32 →
    HasLanes (sel_l (map (top 7) (zip2 alike (zip2 bit_and (bytes_by_bit word) place_bits) place_bits)) (replicate 32 colour) pixels) (λ i. cond (has_bit word i) colour (get_or pixels i 0))
laid_lanes word colour pixels small long =
    let ours = zip2 bit_and (bytes_by_bit word) place_bits in
    let tests = zip2 eqb ours place_bits in
    let are = tops_compared w8 eqb ours place_bits in
    record {
      all = length-sel_l (map (top 7) (zip2 alike ours place_bits)) (replicate 32 colour) pixels refl (sym long);
      lanes = λ i below.
          let bit = i % 8 in
          let whole : 8 * (i / 8) + i % 8 ≡ i = omega arith in
          ap (λ ms. get_or (sel_l ms (replicate 32 colour) pixels) i 0) are
          ∙ get_or-sel_l tests (replicate 32 colour) pixels i 0 below below (omega arith)
          ∙ ap (λ b. cond b (get_or (replicate 32 colour) i 0) (get_or pixels i 0))
          (get_or-zip2 eqb ours place_bits i 0 0 false below below
          ∙ ap (λ b. eqb b (get_or place_bits i 0)) (get_or-zip2 bit_and (bytes_by_bit word) place_bits i 0 0 0 below below ∙ ap (λ b. bit_and b (get_or place_bits i 0)) (byte_by_bit word i small below))
          ∙ ap (λ b. eqb (bit_and (word / 256 ^ (i / 8) % 256) b) b) (place_bit_of i below)
          ∙ bit_alone (word / 256 ^ (i / 8) % 256) (i % 8)
          ∙ byte_bit word (i / 8) (i % 8) (omega arith) (omega arith)
          ∙ ap (has_bit word) whole)
          ∙ ap (λ v. cond (has_bit word i) v (get_or pixels i 0)) (get_or-replicate 32 i colour 0 below);
    }
