use Rattle.std.proofs.Common.{◌*◌}
use Rattle.tas_search.specs.Inside.Digits.{low_value}
use Rattle.tas_search.proofs.PowerLemmas.{IsPart, IsRest}
use Rattle.tas_search.proofs.power.times.Given as goal

abbrev pub invariant-loop-digit : goal.invariant-loop-digit
invariant-loop-digit g l = IsPart l.digits l.product.items l.factor l.carry l.digit-index

abbrev pub invariant-loop-carry : goal.invariant-loop-carry
invariant-loop-carry g l = IsRest l.product.items l.carry (low_value l.digits * l.factor)

abbrev pub decreases-loop-carry : goal.decreases-loop-carry
decreases-loop-carry g l = l.carry
