use Rattle.std.proofs.Common.{arith}
use Rattle.tas_language.proofs.WordLemmas.{past_most}
use Rattle.tas_language.proofs.words.number.Goals as goal

pub returns-in_err-n-clause-none : goal.returns-in_err-n-clause-none
returns-in_err-n-clause-none c = rw c.from_residual.ensures (λ n le is. c.in_err-n.ensures.none n (omega arith) is)

pub returns-then-n-gt-MAX_NUMBER-clause-none : goal.returns-then-n-gt-MAX_NUMBER-clause-none
returns-then-n-gt-MAX_NUMBER-clause-none c = λ n le is. past_most n c.in_ok-n.n c.args.word.now c.in_ok-n.ensures.some (omega arith) c.if-n-gt-MAX_NUMBER.true le is
