use Rattle.std.proofs.Common.{◌≡◌, take}
use Rattle.clap.specs.Words.{app_of}
use Rattle.tas_words.specs.CommandLine.{with_commands}
use Rattle.tas_words.proofs.command_line.with_commands.Given as goal

abbrev pub invariant-loop-subcommand : goal.invariant-loop-subcommand
invariant-loop-subcommand l = app_of l.line ≡ with_commands (app_of l.fn.line) (take l.subcommand-index l.subcommands)
