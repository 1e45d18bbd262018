-- What somebody at a terminal is told before a task reads standard input.
use Rattle.std.specs.Prelude.{◌≡◌, ◌++◌, ◌⊎◌, ℕ, Bool, true, false, List, Option, Some, None, codes, option_map}
use Rattle.std.specs.Io.KnownBytes.{Appends, Keeps}
use Rattle.clap.specs.Walk.{Text}
use Rattle.tas_engines.specs.declared.fault.RunFault.{RunFault}
use Rattle.tas_engines.specs.declared.fault.RunFault.TheVariants.{Memory}
use Rattle.tas_engines.specs.Output.{StopsWriting}
use Rattle.tas_words.specs.declared.task.Task.{Task}
use Rattle.tas_words.specs.Waiting.{waits_for}

-- the line for what is waited for
abbrev pub waiting_line : Text → Text
waiting_line text = codes "waiting: " ++ text ++ codes "\n"

-- the line before a task reads: at a terminal one of a task that reads standard input whole, else none
abbrev pub line_before : (at_terminal : Bool) → Task → Option Text
line_before true chosen = option_map waiting_line (waits_for chosen)
line_before false chosen = None

-- a line is written, where there is one, and nothing else
abbrev pub Tells : Option Text → Option (List ℕ) → Option (List ℕ) → Type 0
Tells None old new = Keeps old new
Tells (Some line) old new = Appends old new line

-- there is a line, and it isn't written whole: memory was refused for it, and nothing of it is written; or a write failed
abbrev pub StopsTelling : Option Text → Option (List ℕ) → Option (List ℕ) → RunFault → Type 0
StopsTelling None old new fault = ⊥
StopsTelling (Some line) old new fault = ((fault ≡ Memory) × Keeps old new) ⊎ StopsWriting old new line fault
