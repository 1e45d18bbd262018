-- How an engine passes on the faults of its second part, and of what it calls.
use Rattle.std.specs.Prelude.{Result, Ok, Err}
use Rattle.vcs_inputs.specs.declared.cart.CartError.{CartError}
use Rattle.vcs_inputs.specs.declared.cart.CartError.TheVariants as cart
use Rattle.tas_movie.specs.declared.error.ReadError.{ReadError}
use Rattle.tas_movie.specs.declared.error.ReadError.TheVariants as text
use Rattle.tas_engines.specs.declared.names.NamesError.{NamesError}
use Rattle.tas_engines.specs.declared.names.NamesError.TheVariants as names
use Rattle.tas_engines.specs.declared.fault.RunFault.{RunFault}
use Rattle.tas_engines.specs.declared.fault.RunFault.TheVariants.{Size, Text, Names, Memory}
use Rattle.tas_engines.specs.declared.fault.ToolFault.{ToolFault}
use Rattle.tas_engines.specs.declared.fault.ToolFault.TheVariants.{Run}

-- why an image made no cartridge
abbrev pub cart_fault : CartError → RunFault
cart_fault (cart.Size len) = Size len
cart_fault cart.Memory = Memory

-- why a text made no movie
abbrev pub text_fault : ReadError → RunFault
text_fault (text.Text error) = Text error
text_fault text.Memory = Memory

-- why a text was no names file
abbrev pub names_fault : NamesError → RunFault
names_fault (names.Line line kind) = Names line kind
names_fault names.Memory = Memory

-- how an engine ends that has read its inputs
abbrev pub reported : Result (Unit {0}) RunFault → Result (Unit {0}) ToolFault
reported (Ok u) = Ok u
reported (Err fault) = Err (Run fault)
