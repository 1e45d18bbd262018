-- What is pressed, and what the ports' pins show then.
use Rattle.std.specs.Prelude.{ℕ, ◌+◌, Bool, true, false, not, List, [], ◌∷◌, if◌then◌else◌}
use Rattle.vcs_inputs.specs.declared.input.Input.{Input}
use Rattle.vcs_inputs.specs.declared.input.Stick.{Stick}
use Rattle.vcs_riot.specs.declared.chip.Pins.{Pins}
use mathlib.Core.Bool.{beq}
use Rattle.std.specs.Cmp.Lexicographic.{pointwise}

-- nothing is pushed or pressed
abbrev pub no_stick : Stick
no_stick = record { right = false; left = false; down = false; up = false; fire = false }

-- nothing is pressed, colour is on, and both difficulties are B
abbrev pub no_input : Input
no_input = record { left = no_stick; right = no_stick; reset = false; select = false; mono = false; left_a = false; right_a = false }

-- the byte with these bits, D7 first
abbrev pub byte_of_bits : Bool → Bool → Bool → Bool → Bool → Bool → Bool → Bool → ℕ
byte_of_bits d7 d6 d5 d4 d3 d2 d1 d0 =
    (if d7 then 128 else 0) + (if d6 then 64 else 0) + (if d5 then 32 else 0) + (if d4 then 16 else 0)
    + (if d3 then 8 else 0) + (if d2 then 4 else 0) + (if d1 then 2 else 0) + (if d0 then 1 else 0)

-- the pins, from D7 down. SWCHA: right, left, down and up of the left stick and then of the right one; a bit is 0 where it is pushed
-- (Stella Programmer's Guide, "Port A - Hand Controllers"). SWCHB: right difficulty A, left difficulty A, 1, 1, colour, 1, select not
-- pressed, reset not pressed (Stella Programmer's Guide, "Port B - Console Switches"; the bits that nothing drives are 1: own)
abbrev pub pins_of : Input → Pins
pins_of i = record {
  a = byte_of_bits (not i.left.right) (not i.left.left) (not i.left.down) (not i.left.up) (not i.right.right) (not i.right.left) (not i.right.down) (not i.right.up);
  b = byte_of_bits i.right_a i.left_a true true (not i.mono) true (not i.select) (not i.reset);
}

-- the fifteen switches of an input
abbrev pub switches_of : Input → List Bool
switches_of i =
    i.left.right ∷ i.left.left ∷ i.left.down ∷ i.left.up ∷ i.left.fire
    ∷ i.right.right ∷ i.right.left ∷ i.right.down ∷ i.right.up ∷ i.right.fire
    ∷ i.reset ∷ i.select ∷ i.mono ∷ i.left_a ∷ i.right_a ∷ []

-- whether all fifteen are alike
abbrev pub are_same_inputs : Input → Input → Bool
are_same_inputs a b = pointwise beq (switches_of a) (switches_of b)
