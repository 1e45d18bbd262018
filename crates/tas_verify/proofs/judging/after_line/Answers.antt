use Rattle.tas_verify.proofs.RowLemmas.{after_some, after_none}
use Rattle.tas_verify.proofs.judging.after_line.Goals as goal

pub returns-in-Some : goal.returns-in-Some
returns-in-Some c = after_some c.args.bytes.now _ c.in-Some.after.now c.in-Some.ensures.some.0 c.in-Some.ensures.some.1

pub returns-in-None : goal.returns-in-None
returns-in-None c = after_none c.args.bytes.now c.in-None.ensures.none
