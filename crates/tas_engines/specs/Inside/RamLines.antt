-- Lines of RAM with names and without: the room that they need, and the names as the definitions have them.
use Rattle.std.specs.Prelude.{ℕ, ◌+◌, ◌*◌, List, length, Option, None, Some, option_map}
use Rattle.std.specs.Borrow.{Bor}
use Rattle.tas_engines.specs.declared.name.Name.{Name}
use Rattle.tas_engines.specs.Names.{Names, names_of}

-- the length of the buffer for a line: with names 20 digits of its number, 4 bytes for each name and the newline; without, none is needed
abbrev pub line_size : {Z : Type 0} → Option (Bor (List (Name Z))) → ℕ
line_size None = 0
line_size (Some names) = 21 + 4 * length names.now

-- the names of a table, where there is one
abbrev pub told_names : {Z : Type 0} → Option (Bor (List (Name Z))) → Option Names
told_names names = option_map (λ names. names_of names.now) names
