-- What the inputs of a command are to it, and the faults that name one.
use Rattle.std.specs.Prelude.{ℕ, List, [], ◌∷◌, Option, Some, None, slice_index_or}
use Rattle.tas_engines.specs.declared.fault.ReadFault.{ReadFault}
use Rattle.tas_engines.specs.declared.fault.ReadFault.TheVariants.{TooLong, Failed, Memory}
use Rattle.tas_engines.specs.declared.fault.ToolFault.TheVariants.{Read}
use Rattle.tas_program.specs.declared.roles.Role.{Role}
use Rattle.tas_program.specs.declared.roles.Role.TheVariants.{Cartridge, Movie, OldMovie, OtherMovie, Script, Names}
use Rattle.tas_program.specs.declared.roles.Roles.{Roles}
use Rattle.tas_program.specs.declared.roles.Roles.TheVariants.{CartMovie, CartOldMovie, CartScriptMovie, CartScriptOtherMovie, CartNamesMovie}
use Rattle.tas_program.specs.declared.status.TaskFault.{TaskFault}
use Rattle.tas_program.specs.declared.status.TaskFault.TheVariants.{Tool, Unread}

-- the inputs of a command, in the order in which they are read: its files, and last standard input
abbrev pub roles_in : Roles → List Role
roles_in CartMovie = Cartridge ∷ Movie ∷ []
roles_in CartOldMovie = Cartridge ∷ OldMovie ∷ Movie ∷ []
roles_in CartScriptMovie = Cartridge ∷ Script ∷ Movie ∷ []
roles_in CartScriptOtherMovie = Cartridge ∷ Script ∷ OtherMovie ∷ Movie ∷ []
roles_in CartNamesMovie = Cartridge ∷ Names ∷ Movie ∷ []

-- the one at a place, counted from 0; no command has an input past the last one
abbrev pub role_in : List Role → ℕ → Role
role_in roles place = slice_index_or roles place Movie

abbrev pub role_of : Roles → ℕ → Role
role_of roles place = role_in (roles_in roles) place

-- the place of the movie that is read before the one on standard input, where there is one
abbrev pub second_of : Roles → Option ℕ
second_of CartMovie = None
second_of CartOldMovie = Some 1
second_of CartScriptMovie = None
second_of CartScriptOtherMovie = Some 2
second_of CartNamesMovie = None

-- an input wasn't read whole: the fault names it, but where memory was refused
abbrev pub unread_fault : Role → ReadFault → TaskFault
unread_fault role TooLong = Unread role TooLong
unread_fault role Failed = Unread role Failed
unread_fault role Memory = Tool (Read Memory)
