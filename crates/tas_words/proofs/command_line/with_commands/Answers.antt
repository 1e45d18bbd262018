use Rattle.std.proofs.lemmas.Grind.{common_steps}
use Rattle.std.proofs.Common.{sym, ◌∙◌, arith}
use Rattle.std.proofs.lemmas.List.Sums.{fold_more}
use Rattle.tas_words.proofs.CommandLineLemmas.{with_command}
use Rattle.tas_words.proofs.command_line.with_commands.Goals as goal

pub loop-subcommand-preserved : goal.loop-subcommand-preserved
loop-subcommand-preserved c =
    let added = with_command _ _ _ _ _ _ c.loop-subcommand.invariant c.in_ok-command_of.ensures.rules c.in_ok-line.ensures in
    added ∙ sym (fold_more _ _ c.args.subcommands.now c.loop-subcommand.subcommand-index _ c.loop-subcommand-test.true)

pub returns : goal.returns
returns c = grind (arith, common_steps)
