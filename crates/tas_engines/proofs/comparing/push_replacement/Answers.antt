use Rattle.std.proofs.lemmas.Grind.{common_steps}
use Rattle.std.proofs.Common.{inr, arith}
use Rattle.std.proofs.lemmas.Bool.{both_ways}
use Rattle.tas_engines.proofs.comparing.push_replacement.Goals as goal

pub returns : goal.returns
returns g c = inr (c.in_ok-push.ensures.items, λ e. both_ways c.eq.result c.if-eq.false (c.eq.ensures.same.1 e), c.replaced_run-count.ensures)

pub returns-then-eq : goal.returns-then-eq
returns-then-eq g c = grind (arith, common_steps)
