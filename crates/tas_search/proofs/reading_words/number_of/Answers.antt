use Rattle.std.proofs.Common.{arith, sym}
use Rattle.tas_search.proofs.TextLemmas.{number_small, number_great, number_none}
use Rattle.tas_search.proofs.reading_words.number_of.Goals as goal

pub returns-then-n-gt4294967295 : goal.returns-then-n-gt4294967295
returns-then-n-gt4294967295 c = sym (number_great c.args.bytes.now c.in_ok-n.n c.in_ok-n.ensures.some (omega arith) (omega arith))

pub returns : goal.returns
returns c = sym (number_small c.args.bytes.now c.in_ok-n.n c.in_ok-n.ensures.some (omega arith))

pub returns-in_err-n : goal.returns-in_err-n
returns-in_err-n c = rw c.from_residual.ensures (sym (number_none c.args.bytes.now c.in_err-n.ensures.none))
