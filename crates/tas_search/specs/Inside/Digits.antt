-- Decimal digits as they are multiplied: the lowest first.
use Rattle.std.specs.Prelude.{◌≡◌, ℕ, ◌+◌, ◌*◌, ◌<◌, List, [], ◌∷◌, ◌⊎◌}
use Rattle.std.specs.Char.{digit_value}
use Rattle.std.specs.Str.Parse.{AllDigits}

-- the number that they write
abbrev pub low_value : List ℕ → ℕ
low_value [] = 0
low_value (c ∷ cs) = digit_value c + 10 * low_value cs

-- the last one, the highest, is no zero
abbrev pub HasTop : List ℕ → Type 0
HasTop [] = ⊥
HasTop (c ∷ []) = c ≡ 48 → ⊥
HasTop (c ∷ d ∷ cs) = HasTop (d ∷ cs)

-- these digits write the number
pub record IsLow (digits : List ℕ) (n : ℕ) : Type 0 where
  pub all : AllDigits 10 digits
  pub value : low_value digits ≡ n
  pub top : HasTop digits

-- something is carried, or the last digit so far is no zero
abbrev pub IsTopped : ℕ → List ℕ → Type 0
IsTopped carry digits = (0 < carry) ⊎ HasTop digits
