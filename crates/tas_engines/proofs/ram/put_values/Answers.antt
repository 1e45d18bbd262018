use Rattle.std.proofs.Common.{arith}
use Rattle.std.proofs.lemmas.Fmt.{length-decimal-le}
use Rattle.tas_engines.proofs.ram.put_values.Goals as goal

pub write_digits-requires : goal.write_digits-requires
write_digits-requires g c =
    let digits = length-decimal-le 20 c.args.k (omega arith) (omega (arith, c.ranges.k.fits)) (omega (arith, c.ranges.k.fits)) in
    (omega (arith, digits, c.loop-left.invariant.low), c.loop-left.invariant.high)
