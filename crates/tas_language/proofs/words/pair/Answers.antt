use Rattle.std.proofs.Common.{subst}
use Rattle.std.specs.Prelude.{decimal}
use Rattle.byte_text.specs.Splitting.{NoByte}
use Rattle.tas_language.proofs.WordLemmas.{number_first}
use Rattle.byte_text.proofs.SplitLemmas.{no_parts}
use Rattle.tas_language.proofs.words.pair.Goals as goal

pub returns-in_err-first-clause-none : goal.returns-in_err-first-clause-none
returns-in_err-first-clause-none c =
    rw c.from_residual.ensures
    (λ a b la lb is. no_parts 32 (decimal a) (decimal b) (subst (NoByte 32) is c.in_err-first.ensures.none))

pub returns-in_err-a-clause-none : goal.returns-in_err-a-clause-none
returns-in_err-a-clause-none c =
    rw c.from_residual-in_err-a.ensures
    (λ a b la lb is. c.in_err-a.ensures.none a la (number_first _ _ _ (decimal b) a c.in_ok-first.ensures.some.0 c.in_ok-first.ensures.some.1 la is).0)

pub returns-in_err-b-clause-none : goal.returns-in_err-b-clause-none
returns-in_err-b-clause-none c =
    rw c.from_residual-in_err-b.ensures
    (λ a b la lb is. c.in_err-b.ensures.none b lb (number_first _ _ _ (decimal b) a c.in_ok-first.ensures.some.0 c.in_ok-first.ensures.some.1 la is).1)
