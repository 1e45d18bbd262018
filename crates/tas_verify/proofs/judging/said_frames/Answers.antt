use Rattle.std.specs.Prelude.{decimal}
use Rattle.std.proofs.Common.{◌++◌, ◌∷◌, arith}
use Rattle.tas_verify.proofs.RowLemmas.{says_frames, unsaid_end, unsaid_number, unsaid_range}
use Rattle.tas_verify.proofs.judging.said_frames.Goals as goal
use Rattle.tas_verify.proofs.judging.said_frames.Goals.{then-every-eq0-via-then-every-eq0, then-every-eq0-via-else-every-eq0+then-every-gt-MAX_FRAMES}

pub returns-in_default-clause-none : goal.returns-in_default-clause-none
returns-in_default-clause-none c = λ n says. c.in_default.ensures.none (decimal n ++ 32 ∷ says.rest) says.is

pub returns-in_default-split_once-clause-none : goal.returns-in_default-split_once-clause-none
returns-in_default-split_once-clause-none c = unsaid_end c.args.line.now c.in-Some.rest.now c.in-Some.ensures.some c.in_default-split_once.ensures.none

pub returns-in_default-read_decimal-clause-none : goal.returns-in_default-read_decimal-clause-none
returns-in_default-read_decimal-clause-none c =
    unsaid_number c.args.line.now c.in-Some.rest.now c.in-Some-split_once.word.now _ c.in-Some.ensures.some c.in-Some-split_once.ensures.some.0 c.in-Some-split_once.ensures.some.1 c.in_default-read_decimal.ensures.none

pub returns-then-every-eq0-clause-none : goal.returns-then-every-eq0-clause-none
returns-then-every-eq0-clause-none c =
    unsaid_range c.args.line.now c.in-Some.rest.now c.in-Some-split_once.word.now _ c.in-Some-read_decimal.every c.in-Some.ensures.some c.in-Some-split_once.ensures.some.0 c.in-Some-split_once.ensures.some.1 c.in-Some-read_decimal.ensures.some (omega arith)
    (λ some most. elim c.then-every-eq0.branch [ then-every-eq0-via-then-every-eq0 w ↦ omega (arith, some, w.if-every-eq0) | then-every-eq0-via-else-every-eq0+then-every-gt-MAX_FRAMES w ↦ omega (arith, most, w.if-every-gt-MAX_FRAMES) ])

pub returns-clause-some : goal.returns-clause-some
returns-clause-some c =
    says_frames c.args.line.now c.in-Some.rest.now c.in-Some-split_once.word.now _ c.in-Some-read_decimal.every c.in-Some.ensures.some c.in-Some-split_once.ensures.some.0 c.in-Some-read_decimal.ensures.some (omega (arith, c.if-every-eq0.false)) (omega (arith, c.if-every-gt-MAX_FRAMES.false))
