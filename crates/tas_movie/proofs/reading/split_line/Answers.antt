use Rattle.std.proofs.lemmas.List.{take_rest}
use Rattle.std.proofs.Common.{◌+◌}
use Rattle.tas_movie.proofs.TextLemmas.{no_break_more, no_break_all, split_at_newline, split_lines-rest}
use Rattle.tas_movie.proofs.reading.split_line.Goals as goal

pub returns-then-bytes-at-eq10-clause-lines : goal.returns-then-bytes-at-eq10-clause-lines
returns-then-bytes-at-eq10-clause-lines c = split_at_newline c.args.bytes.now c.loop-at.at _ c.loop-at-test.true c.if-bytes-at-eq10.true c.loop-at.invariant (take_rest c.args.bytes.now (c.loop-at.at + 1))

pub loop-at-preserved : goal.loop-at-preserved
loop-at-preserved c = no_break_more c.args.bytes.now c.loop-at.at c.loop-at-test.true c.if-bytes-at-eq10.false c.loop-at.invariant

pub returns-clause-none : goal.returns-clause-none
returns-clause-none c = split_lines-rest c.args.bytes.now (no_break_all c.args.bytes.now c.loop-at.at c.loop-at-test.false c.loop-at.invariant)
