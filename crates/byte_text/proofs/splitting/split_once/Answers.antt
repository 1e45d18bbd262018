use Rattle.std.proofs.Common.{arith}
use Rattle.std.proofs.lemmas.Grind.{common_steps}
use Rattle.byte_text.proofs.SplitLemmas.{no_byte_more}
use Rattle.byte_text.proofs.splitting.split_once.Goals as goal

pub loop-at-preserved : goal.loop-at-preserved
loop-at-preserved c = no_byte_more c.args.mark c.args.bytes.now c.loop-at.at c.loop-at-test.true c.if-bytes-at.false c.loop-at.invariant

pub returns-then-bytes-at-clause-some : goal.returns-then-bytes-at-clause-some
returns-then-bytes-at-clause-some c = grind (arith, common_steps)
