use Rattle.std.proofs.Common.{subst}
use Rattle.std.specs.Prelude.{decimal}
use Rattle.byte_text.specs.Splitting.{NoByte}
use Rattle.tas_language.specs.Commands.{pair_text}
use Rattle.byte_text.proofs.SplitLemmas.{no_parts}
use Rattle.tas_language.proofs.WordLemmas.{number_first}
use Rattle.tas_language.proofs.words.triple.Goals as goal

pub returns-in_err-first-clause-none : goal.returns-in_err-first-clause-none
returns-in_err-first-clause-none c =
    rw c.from_residual.ensures
    (λ m n k lm ln lk is. no_parts 32 (decimal m) (pair_text n k) (subst (NoByte 32) is c.in_err-first.ensures.none))

pub returns-in_err-a-clause-none : goal.returns-in_err-a-clause-none
returns-in_err-a-clause-none c =
    rw c.from_residual-in_err-a.ensures
    (λ m n k lm ln lk is. c.in_err-a.ensures.none m lm (number_first _ _ _ (pair_text n k) m c.in_ok-first.ensures.some.0 c.in_ok-first.ensures.some.1 lm is).0)

pub returns-in_err-b-clause-none : goal.returns-in_err-b-clause-none
returns-in_err-b-clause-none c =
    rw c.from_residual-in_err-b.ensures
    (λ m n k lm ln lk is. c.in_err-b.ensures.none n k ln lk (number_first _ _ _ (pair_text n k) m c.in_ok-first.ensures.some.0 c.in_ok-first.ensures.some.1 lm is).1)
