use Rattle.tas_journal.proofs.CutLemmas.{cut_recovered, cut_unfaulted}
use Rattle.tas_journal.proofs.laws.cut_journal_loses_no_line.Goals as goal

pub returns-clause-beginning : goal.returns-clause-beginning
returns-clause-beginning g c = cut_recovered g.row.A.Denot

pub returns-clause-unfaulted : goal.returns-clause-unfaulted
returns-clause-unfaulted g c = cut_unfaulted g.row.A.Denot
