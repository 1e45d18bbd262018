use Rattle.std.proofs.lemmas.Grind.{common_steps}
use Rattle.std.proofs.Common.{sym, ◌∙◌, arith, rules}
use Rattle.std.proofs.lemmas.Bool.{eqb-false, eqb-true}
use Rattle.tas_movie.proofs.RunTextLemmas.{count_is, no_count, same_count, digits_are, long_count}
use Rattle.tas_movie.proofs.run_reading.read_count.Goals as goal

pub returns-then-is_empty-clause-some : goal.returns-then-is_empty-clause-some
returns-then-is_empty-clause-some c = (no_count c.args.bytes.now (eqb-true _ _ (sym c.is_empty.ensures ∙ c.if-is_empty.true)), omega arith, omega arith)

pub returns-then-bytes-lt2-clause-none : goal.returns-then-bytes-lt2-clause-none
returns-then-bytes-lt2-clause-none c = λ n le few is.
    let long = long_count c.args.bytes.now n is le (eqb-false _ _ (sym c.is_empty.ensures ∙ c.if-is_empty.false)) in
    omega (arith, long)

pub returns-in_err-count-clause-none : goal.returns-in_err-count-clause-none
returns-in_err-count-clause-none c = rw c.from_residual.ensures (λ n le few is.
    c.in_err-count.ensures.none n (omega arith) (digits_are c.args.bytes.now c.split_at.result.1.now n is le (eqb-false _ _ (sym c.is_empty.ensures ∙ c.if-is_empty.false)) c.split_at.ensures.back))

pub returns-then-count-lt-LEAST_COUNT-clause-none : goal.returns-then-count-lt-LEAST_COUNT-clause-none
returns-then-count-lt-LEAST_COUNT-clause-none c = λ n le few is.
    let p = count_is c.args.bytes.now n is le (eqb-false _ _ (sym c.is_empty.ensures ∙ c.if-is_empty.false)) in
    let same = same_count c.args.bytes.now c.split_at.result.1.now c.in_ok-count.count n c.split_at.ensures.back c.in_ok-count.ensures.some (omega arith) (omega arith) p.1 in
    omega (arith, same, p.0)

pub returns-then-count-gt-MAX_FRAMES-clause-none : goal.returns-then-count-gt-MAX_FRAMES-clause-none
returns-then-count-gt-MAX_FRAMES-clause-none c = λ n le few is.
    let p = count_is c.args.bytes.now n is le (eqb-false _ _ (sym c.is_empty.ensures ∙ c.if-is_empty.false)) in
    let same = same_count c.args.bytes.now c.split_at.result.1.now c.in_ok-count.count n c.split_at.ensures.back c.in_ok-count.ensures.some (omega arith) (omega arith) p.1 in
    omega (arith, same)

pub returns-clause-some : goal.returns-clause-some
returns-clause-some c = (search rules, omega arith, omega arith)

pub returns-in_err-count-clause-some : goal.returns-in_err-count-clause-some
returns-in_err-count-clause-some c = grind (arith, common_steps)
