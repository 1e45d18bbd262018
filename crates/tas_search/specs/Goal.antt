-- What is looked at in a machine.
use Rattle.std.specs.Prelude.{ℕ, ℤ, pos, negsuc, ◌==◌, List, Bool, true, not}
use Rattle.vcs_machine.specs.Machine.{Machine}

-- every number but 0 counts as true
abbrev pub is_true : ℤ → Bool
is_true (pos n) = not (n == 0)
is_true (negsuc n) = true

-- what is made of a machine's RAM
abbrev pub value_in : (List ℕ → ℤ) → Machine → ℤ
value_in value m = value m.riot.ram

-- whether it counts as true
abbrev pub holds_of : (List ℕ → ℤ) → Machine → Bool
holds_of value m = is_true (value_in value m)
