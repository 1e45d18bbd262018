-- Commands whose faults name their input: which input isn't read whole, and which of two movies has a text at fault.
use Rattle.std.specs.Prelude.{◌≡◌, ◌<◌, ◌⊎◌, ℕ, List, ◌∷◌, ◌++◌, length, Option, Some, None, Result, Ok, Err}
use Rattle.std.specs.Io.KnownBytes.{Keeps}
use Rattle.tas_movie.specs.declared.error.TextError.{TextError}
use Rattle.tas_movie.specs.Fault.{fault as text_error}
use Rattle.tas_engines.specs.declared.fault.ReadFault.{ReadFault}
use Rattle.tas_engines.specs.declared.fault.ReadFault.TheVariants.{Failed, Memory}
use Rattle.tas_engines.specs.declared.fault.RunFault.{RunFault}
use Rattle.tas_engines.specs.declared.fault.RunFault.TheVariants.{Text}
use Rattle.tas_engines.specs.declared.fault.ToolFault.TheVariants.{Read, Run}
use Rattle.tas_engines.specs.Commands.{Answers, bytes_of, in_order}
use Rattle.tas_engines.specs.Input.{AreReadWhole, StopsReading}
use Rattle.tas_engines.specs.Movies.{IsMovieFault}
use Rattle.tas_engines.specs.Output.{Ends}
use Rattle.tas_program.specs.declared.roles.Role.{Role}
use Rattle.tas_program.specs.declared.roles.Roles.{Roles}
use Rattle.tas_program.specs.declared.status.TaskFault.{TaskFault}
use Rattle.tas_program.specs.declared.status.TaskFault.TheVariants.{Tool, Unread, NotMovie}
use Rattle.tas_program.specs.Roles.{role_of, second_of, unread_fault}
use Rattle.tas_program.specs.Streams.{StreamBytes}

-- ---- reading

-- an input of this role wasn't read whole, and this is its fault
abbrev pub IsUnread : Role → (old new : Option (List ℕ)) → TaskFault → Type 0
IsUnread role old new named = (why : ReadFault) × (named ≡ unread_fault role why) × StopsReading old new why

-- reading the inputs of a command, one after the other, stopped at one, and this is its fault: those before it were read whole, and those after it
-- are untouched
pub record StopsAt (roles : Roles) (olds news : List (Option (List ℕ))) (named : TaskFault) : Type 0 where
  pub before : List (Option (List ℕ))
  pub before' : List (Option (List ℕ))
  pub here : Option (List ℕ)
  pub here' : Option (List ℕ)
  pub after : List (Option (List ℕ))
  pub read : List (List ℕ)
  pub olds_are : olds ≡ before ++ here ∷ after
  pub news_are : news ≡ before' ++ here' ∷ after
  pub whole : AreReadWhole before before' read
  pub stops : IsUnread (role_of roles (length before)) here here' named

-- ---- which of two movies is at fault

-- what is wrong with a text, where a fault is that
abbrev pub text_of : RunFault → Option TextError
text_of (Text error) = Some error
text_of fault = None

-- a command ended with this error of a movie's text: its fault names the movie of this role, which was read first, where what is wrong is in its text; else it
-- names none, and is the fault of the movie on standard input
abbrev pub named_text : Role → Option TextError → TextError → TaskFault
named_text role (Some own) error = NotMovie role own
named_text role None error = Tool (Run (Text error))

-- the same of the movie with this cartridge and this text; or why it can't be read once more, such as that there is no memory
abbrev pub IsNamedText : Role → (image text : List ℕ) → TextError → TaskFault → Type 0
IsNamedText role image text error named =
    (named ≡ named_text role (text_error text image) error)
    ⊎ ((why : RunFault) × IsMovieFault image text why × (text_of why ≡ None) × (named ≡ Tool (Run why)))

-- the same of any fault: one that isn't of a text stays as it is
abbrev pub IsNamedBy : Option TextError → Role → (image text : List ℕ) → RunFault → TaskFault → Type 0
IsNamedBy (Some error) role image text fault named = IsNamedText role image text error named
IsNamedBy None role image text fault named = named ≡ Tool (Run fault)

-- the same of a command whose inputs have these bytes, with a second movie at this place or without one
abbrev pub IsNamedAmong : Option ℕ → Roles → (read : List (List ℕ)) → RunFault → TaskFault → Type 0
IsNamedAmong (Some place) roles read fault named = IsNamedBy (text_of fault) (role_of roles place) (bytes_of read 0) (bytes_of read place) fault named
IsNamedAmong None roles read fault named = named ≡ Tool (Run fault)

abbrev pub IsNamedFault : Roles → (read : List (List ℕ)) → RunFault → TaskFault → Type 0
IsNamedFault roles read fault named = IsNamedAmong (second_of roles) roles read fault named

-- the end of a command that has read these inputs
abbrev pub IsNamedEnd : Roles → (read : List (List ℕ)) → Result (Unit {0}) RunFault → Result (Unit {0}) TaskFault → Type 0
IsNamedEnd roles read (Ok u) end = end ≡ Ok tt
IsNamedEnd roles read (Err fault) end = (named : TaskFault) × (end ≡ Err named) × IsNamedFault roles read fault named

-- ---- a command

-- a command ends, from what its files and the input have and the output holds before to what they have and hold afterwards: reading stopped, and nothing is
-- written; or all were read whole, in order, and it answered them
abbrev pub IsNamedRun : Roles → Answers → (files files' : List (Option (List ℕ))) → (input input' output output' : Option (List ℕ)) → Result (Unit {0}) TaskFault → Type 0
IsNamedRun roles answers files files' input input' output output' end =
    ((named : TaskFault) × (end ≡ Err named) × StopsAt roles (in_order files input) (in_order files' input') named × Keeps output output')
    ⊎ ((read : List (List ℕ)) × AreReadWhole (in_order files input) (in_order files' input') read
    × ((done : Result (Unit {0}) RunFault) × Ends (answers read) output output' done × IsNamedEnd roles read done end))

-- one of so many files can't be opened, or there is no memory for their list
abbrev pub IsUnopened : Roles → ℕ → TaskFault → Type 0
IsUnopened roles count named = ((place : ℕ) × (place < count) × (named ≡ Unread (role_of roles place) Failed)) ⊎ (named ≡ Tool (Read Memory))

-- files are opened first: one can't be, and the streams are as before; or the command ends over them, whatever it leaves of them
abbrev pub EndsNamed : Roles → List (Option (List ℕ)) → Answers → StreamBytes → StreamBytes → Result (Unit {0}) TaskFault → Type 0
EndsNamed roles files answers old new end =
    ((named : TaskFault) × (end ≡ Err named) × IsUnopened roles (length files) named × (new ≡ old))
    ⊎ ((left : List (Option (List ℕ))) × IsNamedRun roles answers files left old.input new.input old.output new.output end)
