use Rattle.tas_journal.proofs.LawLemmas.{one_journal}
use Rattle.tas_journal.proofs.laws.one_journal_per_text.Goals as goal

pub returns : goal.returns
returns g c = one_journal g.row.A.Denot
