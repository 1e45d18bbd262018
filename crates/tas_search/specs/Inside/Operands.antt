-- Why no operand was read from words.
use Rattle.std.specs.Prelude.{◌≡◌, ℕ, ◌≤◌, List, [], ◌∷◌, ◌++◌, length}
use Rattle.tas_search.specs.declared.word.Word.{Word}
use Rattle.tas_search.specs.declared.word.Word.TheVariants as word
use Rattle.tas_search.specs.declared.word.Wanted.{Wanted}
use Rattle.tas_search.specs.declared.word.Wanted.TheVariants as wanted
use Rattle.tas_search.specs.declared.operands.ReadFault.{ReadFault}
use Rattle.tas_search.specs.declared.operands.ReadFault.TheVariants.{Memory, At}
use Rattle.tas_search.specs.Grammar.{Tree, words_of, depth, example, Shows}

-- what can come from a fault on: where there are no more words nothing, else the word there and anything
abbrev pub GoesOn : List Word → List Word → Type 0
GoesOn [] more = more ≡ []
GoesOn (w ∷ rest) more = (after : List Word) × (more ≡ w ∷ after)

-- some word is wanted, and no end
abbrev pub IsOpen : Wanted → Type 0
IsOpen wanted.End = ⊥
IsOpen w = Unit {0}

-- no operand of this depth begins the words; an operand can begin as they do before the fault, but none, whatever follows it, as they do with the word there
pub record NoOperand (d : ℕ) (words : List Word) (left : ℕ) (wanted : Wanted) : Type 0 where
  pub front : List Word
  pub rest : List Word
  pub split : words ≡ front ++ rest
  pub count : length rest ≡ left
  pub tree : Tree
  pub more : List Word
  pub within : depth tree ≤ d
  pub fits : words_of tree ≡ front ++ (example wanted ++ more)
  pub none : (t : Tree) (after more : List Word) → depth t ≤ d → GoesOn rest more → words_of t ++ after ≡ front ++ more → ⊥
  pub shows : Shows wanted rest
  pub is_open : IsOpen wanted

-- the same of a fault; being out of memory says nothing of the words
abbrev pub IsReadFault : (ℕ → Wanted → Type 0) → ReadFault → Type 0
IsReadFault at Memory = Unit {0}
IsReadFault at (At left wanted) = at left wanted

-- the words begin with no operator, or with no closing parenthesis
abbrev pub NoOperator : List Word → Type 0
NoOperator [] = Unit {0}
NoOperator (word.Operator op ∷ rest) = ⊥
NoOperator (w ∷ rest) = Unit {0}

abbrev pub NoClose : List Word → Type 0
NoClose [] = Unit {0}
NoClose (word.Close ∷ rest) = ⊥
NoClose (w ∷ rest) = Unit {0}
