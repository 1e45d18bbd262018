-- Errors of readers.
use Rattle.tas_published.specs.declared.errors.ShotError.{ShotError}
use Rattle.tas_published.specs.declared.errors.ShotError.TheVariants.{NoEntry, NoFrame, Memory}
use Rattle.tas_published.specs.declared.errors.StateError.{StateError}
use Rattle.tas_published.specs.declared.errors.StateError.TheVariants.{NoEntry as NoStateEntry, NoFrame as FewFrames, Memory as NoStateMemory}

-- a shot's error that says the same as a look's at the state
abbrev pub shot_error : StateError → ShotError
shot_error NoStateEntry = NoEntry
shot_error (FewFrames at len) = NoFrame at len
shot_error NoStateMemory = Memory
