-- No expression's number is as great as its weight, but for its sign.
use Rattle.std.proofs.Common.{ℕ, zero, suc, ◌+◌, ◌*◌, ◌<◌, ◌≤◌, ◌^◌, Bool, true, false, arith}
use Rattle.std.specs.Prelude.{ℤ, pos, negsuc, ◌+ℤ◌, ◌-ℤ◌, ◌*ℤ◌, unsigned_abs, FitsSigned}
use Rattle.std.proofs.lemmas.Int.{unsigned_abs-mul, fits_signed_from_abs, ints}
use Rattle.std.proofs.Math.Nat.{mul-le-mul, mul-le-mul_left}
use mir.Syntax.{w64}
use Rattle.tas_search.specs.declared.expression.Operator.{Operator}
use Rattle.tas_search.specs.declared.expression.Operator.TheVariants.{Or, And, Equal, Unequal, Less, AtMost, Greater, AtLeast, Plus, Minus, Times}
use Rattle.tas_search.specs.Grammar.{Tree, number, byte, digits, pair, negated, joined}
use Rattle.tas_search.specs.Expression.{applied, truth, joined_weight, weight}

pub truth_small : (t : Bool) → unsigned_abs (truth t) ≤ 1
truth_small true = omega arith
truth_small false = omega arith

pub truth_below : (t : Bool) (n : ℕ) → 2 ≤ n → unsigned_abs (truth t) < n
truth_below t n le = omega (arith, truth_small t)

pub sum_below : (x y : ℤ) (a b : ℕ) → unsigned_abs x < a → unsigned_abs y < b → unsigned_abs (x +ℤ y) < a + b
sum_below (pos x) (pos y) a b p q = omega arith
sum_below (negsuc x) (negsuc y) a b p q = omega arith
sum_below (pos x) (negsuc y) a b p q = grind (arith, ints)
sum_below (negsuc x) (pos y) a b p q = grind (arith, ints)

pub difference_below : (x y : ℤ) (a b : ℕ) → unsigned_abs x < a → unsigned_abs y < b → unsigned_abs (x -ℤ y) < a + b
difference_below (pos x) (pos y) a b p q = grind (arith, ints)
difference_below (negsuc x) (negsuc y) a b p q = grind (arith, ints)
difference_below (pos x) (negsuc y) a b p q = grind (arith, ints)
difference_below (negsuc x) (pos y) a b p q = grind (arith, ints)

times_less : (m n a b : ℕ) → m < a → n < b → m * n < a * b
times_less m n zero b p q = absurd (omega arith)
times_less m n (suc a) zero p q = absurd (omega arith)
times_less m n (suc a) (suc b) p q = let most : m * n ≤ a * b = mul-le-mul (omega arith) (omega arith) in omega arith

pub product_below : (x y : ℤ) (a b : ℕ) → unsigned_abs x < a → unsigned_abs y < b → unsigned_abs (x *ℤ y) < a * b
product_below x y a b p q = rw unsigned_abs-mul (times_less (unsigned_abs x) (unsigned_abs y) a b p q)

pub applied_below : (op : Operator) (x y : ℤ) (a b : ℕ) → unsigned_abs x < a → unsigned_abs y < b → unsigned_abs (applied op x y) < joined_weight op a b
applied_below Or x y a b p q = truth_below _ _ (omega arith)
applied_below And x y a b p q = truth_below _ _ (omega arith)
applied_below Equal x y a b p q = truth_below _ _ (omega arith)
applied_below Unequal x y a b p q = truth_below _ _ (omega arith)
applied_below Less x y a b p q = truth_below _ _ (omega arith)
applied_below AtMost x y a b p q = truth_below _ _ (omega arith)
applied_below Greater x y a b p q = truth_below _ _ (omega arith)
applied_below AtLeast x y a b p q = truth_below _ _ (omega arith)
applied_below Plus x y a b p q = sum_below x y a b p q
applied_below Minus x y a b p q = difference_below x y a b p q
applied_below Times x y a b p q = product_below x y a b p q

pub joined_left : (op : Operator) (a b : ℕ) → 1 ≤ b → a ≤ joined_weight op a b
joined_left Times a b le = let more : a * 1 ≤ a * b = mul-le-mul_left a le in omega arith
joined_left Or a b le = omega arith
joined_left And a b le = omega arith
joined_left Equal a b le = omega arith
joined_left Unequal a b le = omega arith
joined_left Less a b le = omega arith
joined_left AtMost a b le = omega arith
joined_left Greater a b le = omega arith
joined_left AtLeast a b le = omega arith
joined_left Plus a b le = omega arith
joined_left Minus a b le = omega arith

pub joined_right : (op : Operator) (a b : ℕ) → 1 ≤ a → b ≤ joined_weight op a b
joined_right Times a b le = let more : 1 * b ≤ a * b = mul-le-mul (le_refl b le) (omega arith) in omega arith
  where
    le_refl : (b : ℕ) → 1 ≤ a → 1 ≤ a
    le_refl b h = h
joined_right Or a b le = omega arith
joined_right And a b le = omega arith
joined_right Equal a b le = omega arith
joined_right Unequal a b le = omega arith
joined_right Less a b le = omega arith
joined_right AtMost a b le = omega arith
joined_right Greater a b le = omega arith
joined_right AtLeast a b le = omega arith
joined_right Plus a b le = omega arith
joined_right Minus a b le = omega arith

joined_positive : (op : Operator) (a b : ℕ) → 1 ≤ a → 1 ≤ b → 1 ≤ joined_weight op a b
joined_positive op a b p q = omega (arith, joined_left op a b q)

pub weight_positive : (t : Tree) → 1 ≤ weight t
weight_positive (number n) = omega arith
weight_positive (byte at) = omega arith
weight_positive (digits at) = omega arith
weight_positive (pair at) = omega arith
weight_positive (negated t) = omega arith
weight_positive (joined op a b) = joined_positive op (weight a) (weight b) (weight_positive a) (weight_positive b)

pub applied_fits : (op : Operator) (x y : ℤ) (a b : ℕ) → unsigned_abs x < a → unsigned_abs y < b → joined_weight op a b < 2 ^ 63 → FitsSigned w64 (applied op x y)
applied_fits op x y a b p q h = fits_signed_from_abs w64 (applied op x y) (omega (arith, applied_below op x y a b p q))
