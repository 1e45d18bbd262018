-- The pins of one stick as a number. Only a private function cites this file.
use Rattle.std.specs.Prelude.{ℕ, ◌+◌, not, if◌then◌else◌}
use Rattle.vcs_inputs.specs.declared.input.Stick.{Stick}

-- the four bits of one stick's pins
abbrev pub pin_bits : Stick → ℕ
pin_bits s = (if not s.right then 8 else 0) + (if not s.left then 4 else 0) + (if not s.down then 2 else 0) + (if not s.up then 1 else 0)
