-- The choices of a search that is given none.
use Rattle.std.specs.Prelude.{Bool, true, false, List, [], ◌∷◌, ◌++◌}
use Rattle.vcs_inputs.specs.declared.input.Input.{Input}
use Rattle.vcs_inputs.specs.Input.{no_input}

-- nothing is pressed but what the left stick has: the sides to which it is pushed, and its fire button
abbrev pub pushed : (right left down up fire : Bool) → Input
pushed right left down up fire = record no_input { left = record { right = right; left = left; down = down; up = up; fire = fire } }

-- the nine directions of the left stick: none, right, left, down, up, right down, right up, left down, left up
abbrev pub directions : Bool → List Input
directions fire =
    pushed false false false false fire ∷ pushed true false false false fire ∷ pushed false true false false fire ∷ pushed false false true false fire ∷ pushed false false false true fire
    ∷ pushed true false true false fire ∷ pushed true false false true fire ∷ pushed false true true false fire ∷ pushed false true false true fire ∷ []

-- each of them without fire, and then each with it
abbrev pub stick_choices : List Input
stick_choices = directions false ++ directions true
