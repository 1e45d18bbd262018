-- Texts of goals, and why a text is none.
use Rattle.std.specs.Prelude.{◌≡◌, ℕ, ◌+◌, ◌^◌, ◌≤◌, List, ◌∷◌, ◌++◌, length, codes}
use Rattle.tas_engines.specs.Names.{Names}
use Rattle.tas_search.specs.declared.goal.GoalKind.{GoalKind}
use Rattle.tas_search.specs.declared.goal.GoalKind.TheVariants.{Reach, Most, Least}
use Rattle.tas_search.specs.declared.goal.GoalFault.{GoalFault}
use Rattle.tas_search.specs.declared.goal.GoalFault.TheVariants.{Memory, Kind, Word, Great}
use Rattle.tas_search.specs.declared.word.Wanted.{Wanted}
use Rattle.tas_search.specs.Expression.{weight}
use Rattle.tas_search.specs.Grammar.{Tree, Spells, IsFault}
use Rattle.tas_search.specs.Words.{words_in}

-- the first word
abbrev pub kind_word : GoalKind → List ℕ
kind_word Reach = codes "reach"
kind_word Most = codes "most"
kind_word Least = codes "least"

-- the text asks for this of the expression: its first word, a space, and the words of the expression with one space between
abbrev pub IsGoalText : Names → List ℕ → GoalKind → Tree → Type 0
IsGoalText names text kind t = (said : List ℕ) × (text ≡ kind_word kind ++ 32 ∷ said) × Spells (words_in names said) t

-- a word of the expression is at fault, the first word of the text being number 1
pub record IsWordFault (names : Names) (text : List ℕ) (at : ℕ) (wanted : Wanted) : Type 0 where
  pub kind : GoalKind
  pub said : List ℕ
  pub is : text ≡ kind_word kind ++ 32 ∷ said
  pub left : ℕ
  pub fault : IsFault (words_in names said) left wanted
  pub place : at + left ≡ length (words_in names said) + 2

-- why the text is no goal
abbrev pub IsGoalFault : Names → List ℕ → GoalFault → Type 0
IsGoalFault names text Memory = Unit {0}
IsGoalFault names text Kind = (kind : GoalKind) (said : List ℕ) → text ≡ kind_word kind ++ 32 ∷ said → ⊥
IsGoalFault names text (Word at wanted) = IsWordFault names text at wanted
IsGoalFault names text Great = (kind : GoalKind) × (t : Tree) × IsGoalText names text kind t × (2 ^ 63 ≤ weight t)
