use Rattle.tas_journal.proofs.CutLemmas.{whole_recovered}
use Rattle.tas_journal.proofs.laws.journal_makes_its_movie.Goals as goal

pub returns : goal.returns
returns g c = whole_recovered g.row.A.Denot
