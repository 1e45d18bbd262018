use Rattle.std.proofs.Common.{arith}
use Rattle.std.proofs.lemmas.Grind.{common_steps}
use Rattle.tas_search.proofs.ChangeLemmas.{pushed_more, place_more}
use Rattle.tas_search.proofs.changes.push_choices.Goals as goal

pub loop-number-preserved : goal.loop-number-preserved
loop-number-preserved g c = record {
  pushed =
      pushed_more c.args.space.now.choices c.hold-hold.result c.loop-number.at c.loop-number.number-index c.args.numbers.now c.choice.result c.loop-number.changes.items c.push.new.self.items _ c.loop-number-test.true
      c.loop-number.invariant.pushed c.choice.ensures c.in_ok-push.ensures.items;
  fits = place_more c.loop-number.at c.hold-hold.result _ c.loop-number.number-index c.args.numbers.now c.loop-number-test.true c.loop-number.invariant.fits;
}

pub overflow_add-at : goal.overflow_add-at
overflow_add-at g c = grind (arith, common_steps)

pub returns : goal.returns
returns g c = grind (arith, common_steps)
