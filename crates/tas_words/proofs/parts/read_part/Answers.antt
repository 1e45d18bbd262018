use Rattle.std.proofs.Common.{arith, ◌∙◌}
use Rattle.tas_words.proofs.PartLemmas.{cut_part, no_part_read, no_slash}
use Rattle.tas_words.proofs.parts.read_part.Goals as goal

pub returns-in_err-first-clause-none : goal.returns-in_err-first-clause-none
returns-in_err-first-clause-none c = rw c.from_residual.ensures (λ part is same. no_slash _ part c.in_err-first.ensures.none (c.as_bytes.ensures.value ∙ same))

pub returns-in_err-number-clause-none : goal.returns-in_err-number-clause-none
returns-in_err-number-clause-none c =
    rw c.from_residual-in_err-number.ensures
    (λ part is same. c.in_err-number.ensures.none part.number (omega (arith, is.0, is.1, is.2)) (cut_part _ _ _ part c.in_ok-first.ensures.some.0 c.in_ok-first.ensures.some.1 is (c.as_bytes.ensures.value ∙ same)).0)

pub returns-in_err-of-clause-none : goal.returns-in_err-of-clause-none
returns-in_err-of-clause-none c =
    rw c.from_residual-in_err-of.ensures
    (λ part is same. c.in_err-of.ensures.none part.of (omega (arith, is.0, is.1, is.2)) (cut_part _ _ _ part c.in_ok-first.ensures.some.0 c.in_ok-first.ensures.some.1 is (c.as_bytes.ensures.value ∙ same)).1)

pub returns-clause-none : goal.returns-clause-none
returns-clause-none c =
    no_part_read _ _ _ _ c.in_ok-number.number c.in_ok-of.of _ c.as_bytes.ensures.value c.in_ok-first.ensures.some.0 c.in_ok-first.ensures.some.1 c.in_ok-number.ensures.some c.in_ok-of.ensures.some (omega arith) (omega arith)
    c.part_with.ensures.none
