use Rattle.std.proofs.Common.{arith}
use Rattle.std.proofs.lemmas.Grind.{common_steps}
use Rattle.tas_words.proofs.CommandLineLemmas.{with_next_word, with_word}
use Rattle.tas_words.proofs.command_line.with_words.Goals as goal

pub loop-word-preserved : goal.loop-word-preserved
loop-word-preserved c =
    let added = with_word _ _ _ _ _ _ c.loop-word.invariant c.in_ok-arg_of.ensures.local c.in_ok-arg_of.ensures.rule c.in_ok-command.ensures in
    with_next_word _ c.args.subcommand.words.now c.loop-word.word-index _ _ c.loop-word-test.true added

pub returns : goal.returns
returns c = grind (arith, common_steps)

pub loop-word-init : goal.loop-word-init
loop-word-init c = grind (arith, common_steps)

pub offset_bounds-word-items-word-index : goal.offset_bounds-word-items-word-index
offset_bounds-word-items-word-index c = grind (arith, common_steps)
