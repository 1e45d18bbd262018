-- The code's differences of digits, and its signed sum of them, are those of whole numbers.
use Rattle.std.proofs.Common.{◌≡◌, ℕ, ◌+◌, ◌-◌, ◌*◌, ◌/◌, ◌%◌, ◌<◌, ◌≤◌, Bool, true, false, cond, nat_lt, ◌||◌, ap, sym, refl, inl, inr, arith, ℤ, pos, ◌+ℤ◌, ◌-ℤ◌, int_lt, unsigned_abs}
use Rattle.std.proofs.lemmas.Bool.{cases_lt}
use Rattle.std.proofs.lemmas.Bool.Decides.{nat_tests}
use Rattle.std.proofs.lemmas.Int.{ints, int_rem_euclid_is}
use Rattle.std.specs.Int.{int_rem_euclid}
use Rattle.vcs_cpu.specs.Arithmetic.{corrected_low_sum, corrected_low_difference, uncorrected_difference, decimal_difference_byte_of, signed_high_digit, is_decimal_overflow}
use Rattle.vcs_cpu.specs.Inside.Shifted.{shifted_low_difference, shifted_difference, shifted_difference_byte, shifted_high_digit, shifted_overflow}

-- a number n is k more than z: it is below k where z is below 0
test_shifted : (n k : ℕ) (z : ℤ) → z +ℤ pos k ≡ pos n → int_lt z (pos 0) ≡ nat_lt n k
test_shifted n k z e = elim (cases_lt n k) [ inl l ↦ below l | inr g ↦ above g ] where
  below : n < k → int_lt z (pos 0) ≡ nat_lt n k
  below l =
      let left : int_lt z (pos 0) ≡ true = grind (arith, ints, e, l) in
      let right : nat_lt n k ≡ true = grind (arith, nat_tests, l) in
      rw (left, right)

  above : k ≤ n → int_lt z (pos 0) ≡ nat_lt n k
  above g =
      let left : int_lt z (pos 0) ≡ false = grind (arith, ints, e, g) in
      let right : nat_lt n k ≡ false = grind (arith, nat_tests, g) in
      rw (left, right)

low-shifted : (x : ℕ) (z : ℤ) → z +ℤ pos 16 ≡ pos x → cond (int_lt z (pos 0)) (int_rem_euclid (z -ℤ pos 6) (pos 16) -ℤ pos 16) z +ℤ pos 16 ≡ pos (cond (nat_lt x 16) ((x + 10) % 16) x)
low-shifted x z e = rw (test_shifted x 16 z e) (by (nat_lt x 16)) where
  by : (p : Bool) → cond p (int_rem_euclid (z -ℤ pos 6) (pos 16) -ℤ pos 16) z +ℤ pos 16 ≡ pos (cond p ((x + 10) % 16) x)
  by true = let r = int_rem_euclid_is (z -ℤ pos 6) (pos 16) 16 2 (x + 10) (omega arith) refl (omega (arith, ints, e)) in omega (arith, ints, r)
  by false = e

shifted_low_difference-is : (a b c : ℕ) → corrected_low_difference a b c +ℤ pos 16 ≡ pos (shifted_low_difference a b c)
shifted_low_difference-is a b c = low-shifted (15 + a % 16 + c - b % 16) (pos (a % 16) -ℤ pos (b % 16) +ℤ pos c -ℤ pos 1) (omega (arith, ints))

sum-shifted : (x y l : ℕ) (z : ℤ) → z +ℤ pos 16 ≡ pos l → y ≤ 240 → pos x -ℤ pos y +ℤ z +ℤ pos 256 ≡ pos (240 + x + l - y)
sum-shifted x y l z e h = omega (arith, ints, e, h)

shifted_difference-is : (a b c : ℕ) → b < 256 → uncorrected_difference a b c +ℤ pos 256 ≡ pos (shifted_difference a b c)
shifted_difference-is a b c h =
    sum-shifted (16 * (a / 16)) (16 * (b / 16)) (shifted_low_difference a b c) (corrected_low_difference a b c) (shifted_low_difference-is a b c) (omega (arith, h))

byte-shifted : (x : ℕ) (z : ℤ) → z +ℤ pos 256 ≡ pos x → unsigned_abs (int_rem_euclid (cond (int_lt z (pos 0)) (z -ℤ pos 96) z) (pos 256)) ≡ cond (nat_lt x 256) (x + 160) x % 256
byte-shifted x z e = rw (test_shifted x 256 z e) (by (nat_lt x 256)) where
  by : (p : Bool) → unsigned_abs (int_rem_euclid (cond p (z -ℤ pos 96) z) (pos 256)) ≡ cond p (x + 160) x % 256
  by true = ap unsigned_abs (int_rem_euclid_is (z -ℤ pos 96) (pos 256) 256 2 (x + 160) (omega arith) refl (omega (arith, ints, e)))
  by false = ap unsigned_abs (int_rem_euclid_is z (pos 256) 256 1 x (omega arith) refl e)

-- the code's byte is the definition's
pub difference_byte-shifted : (a b c : ℕ) → b < 256 → shifted_difference_byte a b c ≡ decimal_difference_byte_of a b c
difference_byte-shifted a b c h = sym (byte-shifted (shifted_difference a b c) (uncorrected_difference a b c) (shifted_difference-is a b c h))

-- a signed high digit x, or 256 less, is 128 less than the code's
signed_high-shifted : (a : ℕ) → a < 256 → signed_high_digit a +ℤ pos 128 ≡ pos (shifted_high_digit a)
signed_high-shifted a h = elim (cases_lt a 128) [ inl l ↦ below l | inr g ↦ above g ] where
  below : a < 128 → signed_high_digit a +ℤ pos 128 ≡ pos (shifted_high_digit a)
  below l =
      let test : nat_lt a 128 ≡ true = grind (arith, nat_tests, l) in
      rw test (omega (arith, ints, l))

  above : 128 ≤ a → signed_high_digit a +ℤ pos 128 ≡ pos (shifted_high_digit a)
  above g =
      let test : nat_lt a 128 ≡ false = grind (arith, nat_tests, g) in
      rw test (omega (arith, ints, g, h))

-- a number n is 256 more than z: the limits are 256 more, too
limits_shifted : (n : ℕ) (z : ℤ) → z +ℤ pos 256 ≡ pos n → (int_lt z (pos 0 -ℤ pos 128) || int_lt (pos 127) z) ≡ (nat_lt n 128 || nat_lt 383 n)
limits_shifted n z e = rw (low, high) refl where
  low : int_lt z (pos 0 -ℤ pos 128) ≡ nat_lt n 128
  low = elim (cases_lt n 128) [ inl l ↦ inside l | inr g ↦ outside g ] where
    inside : n < 128 → int_lt z (pos 0 -ℤ pos 128) ≡ nat_lt n 128
    inside l =
        let left : int_lt z (pos 0 -ℤ pos 128) ≡ true = grind (arith, ints, e, l) in
        let right : nat_lt n 128 ≡ true = grind (arith, nat_tests, l) in
        rw (left, right)

    outside : 128 ≤ n → int_lt z (pos 0 -ℤ pos 128) ≡ nat_lt n 128
    outside g =
        let left : int_lt z (pos 0 -ℤ pos 128) ≡ false = grind (arith, ints, e, g) in
        let right : nat_lt n 128 ≡ false = grind (arith, nat_tests, g) in
        rw (left, right)

  high : int_lt (pos 127) z ≡ nat_lt 383 n
  high = elim (cases_lt 383 n) [ inl l ↦ outside l | inr g ↦ inside g ] where
    outside : 383 < n → int_lt (pos 127) z ≡ nat_lt 383 n
    outside l =
        let left : int_lt (pos 127) z ≡ true = grind (arith, ints, e, l) in
        let right : nat_lt 383 n ≡ true = grind (arith, nat_tests, l) in
        rw (left, right)

    inside : n ≤ 383 → int_lt (pos 127) z ≡ nat_lt 383 n
    inside g =
        let left : int_lt (pos 127) z ≡ false = grind (arith, ints, e, g) in
        let right : nat_lt 383 n ≡ false = grind (arith, nat_tests, g) in
        rw (left, right)

signed_sum-shifted : (x y l : ℕ) (u v : ℤ) → u +ℤ pos 128 ≡ pos x → v +ℤ pos 128 ≡ pos y → u +ℤ v +ℤ pos l +ℤ pos 256 ≡ pos (x + y + l)
signed_sum-shifted x y l u v p q = omega (arith, ints, p, q)

-- the code's V is the definition's
pub overflow-shifted : (a b c : ℕ) → a < 256 → b < 256 → shifted_overflow a b c ≡ is_decimal_overflow a b c
overflow-shifted a b c h k =
    let low = corrected_low_sum a b c in
    let sum = signed_sum-shifted (shifted_high_digit a) (shifted_high_digit b) low (signed_high_digit a) (signed_high_digit b) (signed_high-shifted a h) (signed_high-shifted b k) in
    sym (limits_shifted (shifted_high_digit a + shifted_high_digit b + low) (signed_high_digit a +ℤ signed_high_digit b +ℤ pos low) sum)
