-- How the tree of an expression is stored: as its words in postfix order, each operator and each `not` after its operands.
use Rattle.std.specs.Prelude.{◌≡◌, List, [], ◌∷◌, refl}
use Rattle.tas_search.specs.declared.expression.Operator.{Operator}
use Rattle.tas_search.specs.declared.word.Word.{Word}
use Rattle.tas_search.specs.declared.word.Word.TheVariants as word
use Rattle.tas_search.specs.Grammar.{Tree, number, byte, digits, pair, negated, joined}

-- the words of a tree, and more of them
abbrev stored_with : Tree → List Word → List Word
stored_with (number n) more = word.Number n ∷ more
stored_with (byte at) more = word.Byte at ∷ more
stored_with (digits at) more = word.Bcd at ∷ more
stored_with (pair at) more = word.Pair at ∷ more
stored_with (negated t) more = stored_with t (word.Not ∷ more)
stored_with (joined op a b) more = stored_with a (stored_with b (word.Operator op ∷ more))

-- `not` takes the first tree
abbrev negate_first : List Tree → List Tree
negate_first [] = []
negate_first (t ∷ rest) = negated t ∷ rest

-- an operator takes the first two trees; the first one is its right operand
abbrev join_first : Operator → List Tree → List Tree
join_first op (b ∷ (a ∷ rest)) = joined op a b ∷ rest
join_first op rest = rest

-- the trees of words, the last one first, after those that there are
abbrev made_of : List Word → List Tree → List Tree
made_of [] trees = trees
made_of (word.Number n ∷ more) trees = made_of more (number n ∷ trees)
made_of (word.Byte at ∷ more) trees = made_of more (byte at ∷ trees)
made_of (word.Bcd at ∷ more) trees = made_of more (digits at ∷ trees)
made_of (word.Pair at ∷ more) trees = made_of more (pair at ∷ trees)
made_of (word.Not ∷ more) trees = made_of more (negate_first trees)
made_of (word.Operator op ∷ more) trees = made_of more (join_first op trees)
made_of (word.Open ∷ more) trees = made_of more trees
made_of (word.Close ∷ more) trees = made_of more trees
made_of (word.Other ∷ more) trees = made_of more trees

-- the first tree; where there is none, any
abbrev first_of : List Tree → Tree
first_of [] = number 0
first_of (t ∷ rest) = t

-- the words of a tree
abbrev pub stored : Tree → List Word
stored t = stored_with t []

-- the tree of such words
abbrev pub made : List Word → Tree
made words = first_of (made_of words [])

-- words of a tree, and more of them, make the tree and then what more of them make
made_with : (t : Tree) (more : List Word) (trees : List Tree) → made_of (stored_with t more) trees ≡ made_of more (t ∷ trees)
made_with (number n) more trees = refl
made_with (byte at) more trees = refl
made_with (digits at) more trees = refl
made_with (pair at) more trees = refl
made_with (negated t) more trees = made_with t (word.Not ∷ more) trees
made_with (joined op a b) more trees = rw (made_with a (stored_with b (word.Operator op ∷ more)) trees) (made_with b (word.Operator op ∷ more) (a ∷ trees))

-- no tree is lost: what is stored makes it again
pub made_again : (t : Tree) → made (stored t) ≡ t
made_again t = rw (made_with t [] []) refl
