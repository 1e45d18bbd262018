use Rattle.std.proofs.Common.{arith}
use Rattle.std.proofs.lemmas.Grind.{common_steps}
use Rattle.tas_journal.specs.Text.{movie_line}
use Rattle.tas_journal.proofs.writing.movie_line.Goals as goal

pub returns : goal.returns
unfolding movie_line
returns g c = grind (arith, common_steps)
