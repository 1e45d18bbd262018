use Rattle.std.proofs.lemmas.Grind.{common_steps}
use Rattle.std.proofs.Common.{◌<◌, length, arith}
use Rattle.tas_verify.proofs.RowLemmas.{differ_here, differ_at, differ_ended}
use Rattle.tas_verify.proofs.judging.differing_line.Goals as goal

pub returns-then-now-at-clause-some : goal.returns-then-now-at-clause-some
returns-then-now-at-clause-some c =
    let now = c.args.now.now in
    let stored = c.args.stored.now in
    let low : c.loop-at.at < length now = omega (arith, c.loop-at-test.true, c.min-end.ensures) in
    let low' : c.loop-at.at < length stored = omega (arith, c.loop-at-test.true, c.min-end.ensures) in
    differ_here now stored c.loop-at.at c.loop-at.line c.loop-at.invariant.same (differ_at now stored c.loop-at.at 0 low low' c.if-now-at.true) c.loop-at.invariant.place

pub returns-else-now-stored-clause-some : goal.returns-else-now-stored-clause-some
returns-else-now-stored-clause-some c =
    let now = c.args.now.now in
    let stored = c.args.stored.now in
    let ended = differ_ended now stored c.loop-at.at (omega (arith, c.loop-at.auto.at-end, c.min-end.ensures)) (omega (arith, c.loop-at.auto.at-end, c.min-end.ensures))
    (λ p q. omega (arith, p, q, c.loop-at-test.false, c.min-end.ensures)) (λ e. omega (arith, e, c.if-now-stored.false)) in
    differ_here now stored c.loop-at.at c.loop-at.line c.loop-at.invariant.same ended c.loop-at.invariant.place

pub loop-at-preserved : goal.loop-at-preserved
loop-at-preserved c = grind (arith, common_steps)
