use Rattle.tas_journaling.proofs.NoteLemmas.{whole_part}
use Rattle.tas_journaling.proofs.journal.append.Goals as goal

pub returns-in-Err-clause-cut : goal.returns-in-Err-clause-cut
returns-in-Err-clause-cut g c = (_, c.in-Err.ensures.cut)

pub returns-in-Err-sync-clause-cut : goal.returns-in-Err-sync-clause-cut
returns-in-Err-sync-clause-cut g c = whole_part _ _ _ c.args.bytes.now c.in_default.ensures.all c.sync.ensures.same
