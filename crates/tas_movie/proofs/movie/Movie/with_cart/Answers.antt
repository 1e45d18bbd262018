use Rattle.std.proofs.Common.{arith, rules}
use Rattle.tas_movie.proofs.movie.Movie.with_cart.Goals as goal

pub invariant_of-result : goal.invariant_of-result
invariant_of-result g c = let none = c.in_ok-list.ensures.len in (omega (arith, none), c.in_ok-list.ensures.capacity)

pub returns : goal.returns
returns g c = search rules
