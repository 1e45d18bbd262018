-- The tasks that report to standard error beside their output.
use Rattle.std.specs.Prelude.{ℕ, List, Option, Some, None, Result}
use Rattle.tas_words.specs.declared.task.Task.{Task}
use Rattle.tas_words.specs.declared.task.Task.TheVariants.{Recover, Search, Verify}
use Rattle.tas_program.specs.declared.searching.Reported.{Reported}
use Rattle.tas_program.specs.declared.searching.Reported.TheVariants as reported
use Rattle.tas_program.specs.declared.status.TaskFault.{TaskFault}
use Rattle.tas_program.specs.Files.{FileBytes}
use Rattle.tas_program.specs.Recovering.{RecoveryEnds}
use Rattle.tas_program.specs.Saving.{FileSteps}
use Rattle.tas_program.specs.Searching.{RunsSearch}
use Rattle.tas_program.specs.Streams.{StreamBytes}
use Rattle.tas_program.specs.Verifying.{VerifyEnds}

-- the words of a task that reports
abbrev pub reported_of : Task → Option Reported
reported_of (Search words) = Some (reported.Search words)
reported_of (Recover words) = Some (reported.Recovery words)
reported_of (Verify words) = Some (reported.Verification words)
reported_of chosen = None

-- a task that reports ends as its own definition says, with the file of its report made, or that of its cartridge replaced, as the folder states its steps; standard error held some bytes
-- before and holds some afterwards; nothing is said of what a verification writes there, how far it is
abbrev pub ReportedEnds : FileSteps → FileBytes → Reported → StreamBytes → StreamBytes → (told told' : Option (List ℕ)) → Result (Unit {0}) TaskFault → Type 0
ReportedEnds steps files (reported.Search words) old new told told' end = RunsSearch steps files words old new told told' end
ReportedEnds steps files (reported.Recovery words) old new told told' end = RecoveryEnds steps files words old new told told' end
ReportedEnds steps files (reported.Verification words) old new told told' end = VerifyEnds files.read words old new end
