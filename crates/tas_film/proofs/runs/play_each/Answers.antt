use Rattle.std.proofs.Common.{ℕ, ◌<◌, arith, subst, sym}
use Rattle.std.proofs.lemmas.Grind.{common_steps}
use Rattle.tas_film.proofs.runs.play_each.Goals as goal

pub returns : goal.returns
returns g c i d lt = c.for_each_on_threads.ensures i d (subst (λ (n : ℕ). i < n) (sym c.requires.count) lt)

pub for_each_on_threads-requires-after_bounds : goal.for_each_on_threads-requires-after_bounds
for_each_on_threads-requires-after_bounds g c = grind (arith, common_steps)
