use Rattle.std.proofs.Common.{arith}
use Rattle.std.proofs.lemmas.Grind.{common_steps}
use Rattle.tas_film.proofs.film.Screen.write_picture.Goals as goal

pub write_counted-requires : goal.write_counted-requires
write_counted-requires g c = grind (arith, common_steps)

pub returns-in-Err-clause-cut : goal.returns-in-Err-clause-cut
returns-in-Err-clause-cut g c = grind (arith, common_steps)

pub returns-then-is_ok-clause-ok : goal.returns-then-is_ok-clause-ok
returns-then-is_ok-clause-ok g c = grind (arith, common_steps)
