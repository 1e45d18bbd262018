use Rattle.tas_search.specs.Inside.Digits.{low_value}
use Rattle.tas_search.proofs.PowerLemmas.{not_raised, own_value, raised}
use Rattle.tas_search.proofs.power.times_power.Goals as goal

pub loop-done-init : goal.loop-done-init
loop-done-init g c = not_raised c.args.start.items c.args.factor c.requires.digits

pub times-requires-clause-digits : goal.times-requires-clause-digits
times-requires-clause-digits g c = rw c.as_slice.ensures.value (own_value c.loop-done.digits.items _ c.loop-done.invariant)

pub loop-done-preserved : goal.loop-done-preserved
loop-done-preserved g c = raised c.loop-done.digits.items c.in_ok-digits.digits.items (low_value c.args.start.items) c.args.factor c.loop-done.done c.loop-done.invariant (rw c.as_slice.ensures.value at c.in_ok-digits.ensures)
