-- Choices files, and why a text is none.
use Rattle.std.specs.Prelude.{◌≡◌, ℕ, ◌+◌, ◌<◌, List, [], ◌∷◌, ◌++◌, length}
use Rattle.std.specs.List.{flat_map}
use Rattle.byte_text.specs.Splitting.{NoByte}
use Rattle.vcs_inputs.specs.declared.input.Input.{Input}
use Rattle.tas_movie.specs.Text.{frame_text, frame_line}
use Rattle.tas_search.specs.declared.choices.ChoicesError.{ChoicesError}
use Rattle.tas_search.specs.declared.choices.ChoicesError.TheVariants.{Memory, Line}
use Rattle.tas_search.specs.declared.choices.ChoicesFaultKind.{ChoicesFaultKind}
use Rattle.tas_search.specs.declared.choices.ChoicesFaultKind.TheVariants.{End, Frame}

-- the text is that of these choices, of which there is one at least
pub record AreChoicesOf (text : List ℕ) (choices : List Input) : Type 0 where
  pub is : text ≡ flat_map frame_line choices
  pub some : 0 < length choices

-- what is wrong with the first line of the rest of a text: nothing ends it, or it is no frame
abbrev pub IsLineFault : List ℕ → ChoicesFaultKind → Type 0
IsLineFault rest End = NoByte 10 rest
IsLineFault rest Frame = (first : List ℕ) × (after : List ℕ) × (rest ≡ first ++ 10 ∷ after) × NoByte 10 first × ((input : Input) → first ≡ frame_text input → ⊥)

-- why the text is no choices file: the lines before the one at fault are frames, and there are more lines, or there is none at all
pub record IsChoicesFault (text : List ℕ) (number : ℕ) (kind : ChoicesFaultKind) : Type 0 where
  pub choices : List Input
  pub rest : List ℕ
  pub is : text ≡ flat_map frame_line choices ++ rest
  pub place : number ≡ length choices + 1
  pub more : rest ≡ [] → choices ≡ []
  pub fault : IsLineFault rest kind

abbrev pub IsChoicesError : List ℕ → ChoicesError → Type 0
IsChoicesError text Memory = Unit {0}
IsChoicesError text (Line number kind) = IsChoicesFault text number kind
