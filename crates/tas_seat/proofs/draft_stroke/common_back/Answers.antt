use Rattle.std.proofs.lemmas.Grind.{common_steps}
use Rattle.std.proofs.Common.{refl, arith}
use Rattle.tas_seat.proofs.StrokeLemmas.{back_more, back_ends}
use Rattle.tas_seat.proofs.draft_stroke.common_back.Goals as goal

pub loop-back-preserved : goal.loop-back-preserved
loop-back-preserved c = record {
  within_a = omega (arith, c.loop-back-test.true);
  within_b = omega (arith, c.if-back-b.true);
  same = back_more c.args.a.now c.args.b.now c.loop-back.back _ _ _ c.eq.result c.eq.ensures.same c.if-eq.true c.loop-back-test.true c.if-back-b.true refl refl c.loop-back.invariant.same;
}

pub returns-else-eq : goal.returns-else-eq
returns-else-eq c = back_ends c.args.a.now c.args.b.now c.loop-back.back _ _ _ c.eq.result c.eq.ensures.same c.if-eq.false c.loop-back-test.true c.if-back-b.true refl refl c.loop-back.invariant.same

pub returns-else-back-b : goal.returns-else-back-b
returns-else-back-b c = grind (arith, common_steps)
