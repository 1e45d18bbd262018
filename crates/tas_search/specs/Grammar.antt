-- The grammar of expressions over words, and where words that are no expression go wrong.
use Rattle.std.specs.Prelude.{◌≡◌, ℕ, suc, ◌≤◌, ◌⊎◌, List, [], ◌∷◌, ◌++◌, length, max}
use Rattle.tas_search.specs.declared.expression.Operator.{Operator}
use Rattle.tas_search.specs.declared.expression.Operator.TheVariants.{Plus}
use Rattle.tas_search.specs.declared.expression.Expression.{Expression, Number, Byte, Bcd, Pair, Not', Both'}
use Rattle.tas_search.specs.declared.word.Word.{Word}
use Rattle.tas_search.specs.declared.word.Word.TheVariants as word
use Rattle.tas_search.specs.declared.word.Wanted.{Wanted}
use Rattle.tas_search.specs.declared.word.Wanted.TheVariants as wanted

-- what an expression says
pub data Tree : Type 0 where
  number : ℕ → Tree
  byte : ℕ → Tree
  digits : ℕ → Tree
  pair : ℕ → Tree
  negated : Tree → Tree
  joined : Operator → Tree → Tree → Tree

-- what the code's expression says, whichever allocator its parts are from
abbrev pub tree_of : {Z : Type 0} → Expression Z → Tree
tree_of (Number n) = number n
tree_of (Byte at) = byte at
tree_of (Bcd at) = digits at
tree_of (Pair at) = pair at
tree_of (Not' p e) = negated (tree_of e)
tree_of (Both' op p a q b) = joined op (tree_of a) (tree_of b)

-- the words of an operand: two that are joined stand in parentheses, with the operator between them
abbrev pub words_of : Tree → List Word
words_of (number n) = word.Number n ∷ []
words_of (byte at) = word.Byte at ∷ []
words_of (digits at) = word.Bcd at ∷ []
words_of (pair at) = word.Pair at ∷ []
words_of (negated t) = word.Not ∷ words_of t
words_of (joined op a b) = word.Open ∷ (words_of a ++ (word.Operator op ∷ (words_of b ++ (word.Close ∷ []))))

-- how many parentheses and `not` stand in one another
abbrev pub depth : Tree → ℕ
depth (number n) = 0
depth (byte at) = 0
depth (digits at) = 0
depth (pair at) = 0
depth (negated t) = suc (depth t)
depth (joined op a b) = suc (max (depth a) (depth b))

-- the greatest depth of an operand
abbrev pub most_depth : ℕ
most_depth = 64

-- two operands and the operator between them, without parentheses
abbrev pub IsBare : List Word → Tree → Type 0
IsBare words (joined op a b) = (words ≡ words_of a ++ (word.Operator op ∷ words_of b)) × (depth a ≤ most_depth) × (depth b ≤ most_depth)
IsBare words (number n) = ⊥
IsBare words (byte at) = ⊥
IsBare words (digits at) = ⊥
IsBare words (pair at) = ⊥
IsBare words (negated t) = ⊥

-- these are the words of a whole expression: an operand, or two with an operator between them
abbrev pub Spells : List Word → Tree → Type 0
Spells words t = ((words ≡ words_of t) × (depth t ≤ most_depth)) ⊎ IsBare words t

-- some whole expression begins so
abbrev pub Begins : List Word → Type 0
Begins front = (more : List Word) × (t : Tree) × Spells (front ++ more) t

-- words of each kind that can be expected; at an end there is none
abbrev pub example : Wanted → List Word
example wanted.Operand = word.Number 0 ∷ []
example wanted.Operator = word.Operator Plus ∷ []
example wanted.Close = word.Close ∷ []
example wanted.End = []
example wanted.Depth = word.Number 0 ∷ []

-- what is expected can stand after these words; the end, where they are an expression that no word can follow
abbrev pub Fits : Wanted → List Word → Type 0
Fits wanted.End front = (t : Tree) × Spells front t × ((w : Word) → Begins (front ++ w ∷ []) → ⊥)
Fits w front = Begins (front ++ example w)

-- the words from a fault on begin with a parenthesis or a `not`
abbrev pub IsDeeper : List Word → Type 0
IsDeeper [] = ⊥
IsDeeper (word.Open ∷ rest) = Unit {0}
IsDeeper (word.Not ∷ rest) = Unit {0}
IsDeeper (w ∷ rest) = ⊥

-- what is wanted where the words go on so: nothing deeper where an operand alone would be too deep, and an operand where they go on with no operand
abbrev pub Shows : Wanted → List Word → Type 0
Shows wanted.Operand rest = IsDeeper rest → ⊥
Shows wanted.Depth rest = IsDeeper rest
Shows w rest = Unit {0}

-- the first word at which the words are no expression any more; where there is no such word, they end before they are one
abbrev pub Breaks : List Word → List Word → Type 0
Breaks front [] = (t : Tree) → Spells front t → ⊥
Breaks front (w ∷ rest) = Begins (front ++ w ∷ []) → ⊥

-- what is at fault in words that are no expression: as many of them are left from the fault on, and after those before it what is expected can stand
pub record IsFault (words : List Word) (left : ℕ) (wanted : Wanted) : Type 0 where
  pub front : List Word
  pub rest : List Word
  pub split : words ≡ front ++ rest
  pub count : length rest ≡ left
  pub fits : Fits wanted front
  pub breaks : Breaks front rest
  pub shows : Shows wanted rest
