-- Expressions over RAM, and what they mean: whole numbers without a limit.
use Rattle.std.specs.Prelude.{ℕ, ◌+◌, ◌*◌, ◌/◌, ◌%◌, ℤ, pos, ◌+ℤ◌, ◌-ℤ◌, ◌*ℤ◌, List, slice_index, Bool, not, ◌&&◌, ◌||◌, if◌then◌else◌, int_lt}
use Rattle.std.specs.Ordering.{int_eq}
use Rattle.tas_search.specs.Goal.{is_true}
use Rattle.tas_search.specs.declared.expression.Operator.{Operator}
use Rattle.tas_search.specs.declared.expression.Operator.TheVariants.{Or, And, Equal, Unequal, Less, AtMost, Greater, AtLeast, Plus, Minus, Times}
use Rattle.tas_search.specs.Grammar.{Tree, number, byte, digits, pair, negated, joined}

-- the byte of RAM at an address, of which the low seven bits count
abbrev pub byte_at : List ℕ → ℕ → ℕ
byte_at ram address = slice_index ram (address % 128)

-- a byte as two decimal digits, the high half first
abbrev pub bcd : ℕ → ℤ
bcd n = pos (n / 16 * 10 + n % 16)

-- 1 for true, 0 for false
abbrev pub truth : Bool → ℤ
truth holds = if holds then pos 1 else pos 0

-- an operator's number of two others
abbrev pub applied : Operator → ℤ → ℤ → ℤ
applied Or a b = truth (is_true a || is_true b)
applied And a b = truth (is_true a && is_true b)
applied Equal a b = truth (int_eq a b)
applied Unequal a b = truth (not (int_eq a b))
applied Less a b = truth (int_lt a b)
applied AtMost a b = truth (not (int_lt b a))
applied Greater a b = truth (int_lt b a)
applied AtLeast a b = truth (not (int_lt a b))
applied Plus a b = a +ℤ b
applied Minus a b = a -ℤ b
applied Times a b = a *ℤ b

-- what an expression makes of RAM
abbrev pub value_of : Tree → List ℕ → ℤ
value_of (number n) ram = pos n
value_of (byte at) ram = pos (byte_at ram at)
value_of (digits at) ram = bcd (byte_at ram at)
value_of (pair at) ram = pos (byte_at ram at + 256 * byte_at ram ((at + 1) % 256))
value_of (negated t) ram = truth (not (is_true (value_of t ram)))
value_of (joined op a b) ram = applied op (value_of a ram) (value_of b ram)

-- the weight of an operator with operands of these weights
abbrev pub joined_weight : Operator → ℕ → ℕ → ℕ
joined_weight Times a b = a * b
joined_weight _ a b = a + b

-- an upper bound: greater than the absolute value of any number that the expression makes, and no less than the weight of any part of it
abbrev pub weight : Tree → ℕ
weight (number n) = n + 1
weight (byte at) = 256
weight (digits at) = 256
weight (pair at) = 65536
weight (negated t) = weight t + 1
weight (joined op a b) = joined_weight op (weight a) (weight b)
