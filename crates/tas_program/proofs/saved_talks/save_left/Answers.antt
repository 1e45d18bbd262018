use Rattle.std.proofs.Common.{refl}
use Rattle.tas_program.proofs.saved_talks.save_left.Goals as goal

pub returns-in-Some : goal.returns-in-Some
returns-in-Some g c = rw c.in-Some.is (c.save_movie.result, c.left_end.ensures, c.save_movie.ensures)

pub returns-in-None : goal.returns-in-None
returns-in-None g c = rw c.in-None.is (refl, refl)
