use Rattle.tas_journal.proofs.RunLemmas.{journal_read}
use Rattle.tas_journal.proofs.reading.read_journal.Goals as goal

pub returns-in-Ok-clause-whole : goal.returns-in-Ok-clause-whole
returns-in-Ok-clause-whole g c = journal_read _ _ _ _ c.new-bytes.ensures.items c.in-Ok.ensures.bytes c.in-Ok.ensures.end c.read_to_end.ensures.none_lost
