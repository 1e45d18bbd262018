use Rattle.std.proofs.Common.{take}
use Rattle.std.specs.Prelude.{map}
use Rattle.tas_words.specs.CommandLine.{rule_of_word, HasRules}
use Rattle.tas_words.proofs.command_line.with_words.Given as goal

abbrev pub invariant-loop-word : goal.invariant-loop-word
invariant-loop-word l = HasRules l.fn.subcommand.name.now (map rule_of_word (take l.word-index l.fn.subcommand.words.now)) l.command
