-- Sums and differences of digits as the code has them: 16, 128 or 256 more than the whole numbers, so that none is below 0. Only private
-- functions cite this file.
use Rattle.std.specs.Prelude.{ℕ, ◌+◌, ◌-◌, ◌*◌, ◌/◌, ◌%◌, nat_lt, ◌||◌, Bool, if◌then◌else◌}
use Rattle.vcs_cpu.specs.Arithmetic.{corrected_low_sum}

-- 128 more than a byte's high digit, read as a signed byte
abbrev pub shifted_high_digit : ℕ → ℕ
shifted_high_digit a = (16 * (a / 16) + 128) % 256

-- V of a decimal ADC, by a sum that is 256 more
abbrev pub shifted_overflow : ℕ → ℕ → ℕ → Bool
shifted_overflow a b c = let sum = shifted_high_digit a + shifted_high_digit b + corrected_low_sum a b c in nat_lt sum 128 || nat_lt 383 sum

-- 16 more than the corrected difference of the low digits
abbrev pub shifted_low_difference : ℕ → ℕ → ℕ → ℕ
shifted_low_difference a b c = let low = 15 + a % 16 + c - b % 16 in if nat_lt low 16 then (low + 10) % 16 else low

-- 256 more than the difference of both digits, before the high digit is corrected
abbrev pub shifted_difference : ℕ → ℕ → ℕ → ℕ
shifted_difference a b c = 240 + 16 * (a / 16) + shifted_low_difference a b c - 16 * (b / 16)

-- the byte: 96 less where the difference is below 0 is 160 more modulo 256
abbrev pub shifted_difference_byte : ℕ → ℕ → ℕ → ℕ
shifted_difference_byte a b c = let raw = shifted_difference a b c in (if nat_lt raw 256 then raw + 160 else raw) % 256
