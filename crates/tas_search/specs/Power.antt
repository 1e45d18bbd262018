-- Numbers in decimal digits, whatever their size.
use Rattle.std.specs.Prelude.{◌≡◌, ℕ, List, length, slice_index}
use Rattle.std.specs.Str.Parse.{IsNumeral, digits_value}

-- the text is the number in decimal digits, without leading zeros
pub record IsDecimal (text : List ℕ) (n : ℕ) : Type 0 where
  pub digits : IsNumeral 10 text
  pub value : digits_value 10 text ≡ n
  pub first : slice_index text 0 ≡ 48 → length text ≡ 1
