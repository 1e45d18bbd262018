-- Commands: functions of the bytes of their inputs.
use Rattle.std.specs.Prelude.{ℕ, List, [], ◌∷◌, ◌++◌, slice_index_or, Option, Result}
use Rattle.tas_engines.specs.declared.fault.RunFault.{RunFault}
use Rattle.tas_engines.specs.declared.fault.ToolFault.{ToolFault}
use Rattle.tas_engines.specs.Input.{AreReadWhole, StopsReadingAll}
use Rattle.tas_engines.specs.Output.{Ends, EndsAfter}

-- what a command answers to its inputs: bytes, or why there are none
abbrev pub Answers : Type 1
Answers = List (List ℕ) → Result (List ℕ) RunFault → Type 0

-- the bytes of the input at a place, and none where there is no such input
abbrev pub bytes_of : List (List ℕ) → ℕ → List ℕ
bytes_of inputs place = slice_index_or inputs place []

-- what a command of one input answers, and one of two, of three and of four
abbrev pub OfOne : (List ℕ → Result (List ℕ) RunFault → Type 0) → Answers
OfOne answers inputs said = answers (bytes_of inputs 0) said

abbrev pub OfTwo : (List ℕ → List ℕ → Result (List ℕ) RunFault → Type 0) → Answers
OfTwo answers inputs said = answers (bytes_of inputs 0) (bytes_of inputs 1) said

abbrev pub OfThree : (List ℕ → List ℕ → List ℕ → Result (List ℕ) RunFault → Type 0) → Answers
OfThree answers inputs said = answers (bytes_of inputs 0) (bytes_of inputs 1) (bytes_of inputs 2) said

abbrev pub OfFour : (List ℕ → List ℕ → List ℕ → List ℕ → Result (List ℕ) RunFault → Type 0) → Answers
OfFour answers inputs said = answers (bytes_of inputs 0) (bytes_of inputs 1) (bytes_of inputs 2) (bytes_of inputs 3) said

-- a command ends, from what its inputs have and the output holds before to what they have and hold afterwards: reading stopped, and nothing
-- is written; or all were read whole, in order, and it answered them
abbrev pub IsRunOn : Answers → (inputs inputs' : List (Option (List ℕ))) → (output output' : Option (List ℕ)) → Result (Unit {0}) ToolFault → Type 0
IsRunOn answers inputs inputs' output output' result =
    EndsAfter (StopsReadingAll inputs inputs')
    (λ end. (read : List (List ℕ)) × AreReadWhole inputs inputs' read × Ends (answers read) output output' end)
    output output' result

-- what is read, in order: the files, and last the input
abbrev pub in_order : List (Option (List ℕ)) → Option (List ℕ) → List (Option (List ℕ))
in_order files input = files ++ input ∷ []

-- the same of files and an input
abbrev pub IsRun : Answers → (files files' : List (Option (List ℕ))) → (input input' output output' : Option (List ℕ)) → Result (Unit {0}) ToolFault → Type 0
IsRun answers files files' input input' output output' result = IsRunOn answers (in_order files input) (in_order files' input') output output' result
