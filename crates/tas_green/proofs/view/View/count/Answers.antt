use Rattle.std.proofs.Common.{arith}
use Rattle.tas_green.proofs.BoundLemmas.{count_bound}
use Rattle.tas_green.proofs.view.View.count.Goals as goal

pub returns-clause-bounded : goal.returns-clause-bounded
returns-clause-bounded g c = omega (arith, c.len.ensures, count_bound c.self.inside.movie c.self.inside.states.items c.self.invariant.lawful.states)
