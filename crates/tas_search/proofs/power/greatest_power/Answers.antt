use Rattle.std.proofs.Common.{◌^◌, arith}
use Rattle.tas_search.proofs.PowerLemmas.{factor_high, first_power}
use Rattle.tas_search.proofs.power.greatest_power.Goals as goal

pub overflow_mul-factor : goal.overflow_mul-factor
overflow_mul-factor c = let high = factor_high c.args.base c.loop-exponent.factor (2 ^ 60) c.if-factor-base.true in omega (arith, high)

pub loop-exponent-init : goal.loop-exponent-init
loop-exponent-init c = record { power = first_power c.args.base; low = c.requires.low; high = c.requires.high; some = omega arith }
