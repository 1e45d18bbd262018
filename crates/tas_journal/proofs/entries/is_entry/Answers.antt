use Rattle.std.proofs.Common.{◌∙◌}
use Rattle.tas_journal.proofs.ReadingLemmas.{entry_whole, entry_found}
use Rattle.tas_journal.proofs.entries.is_entry.Goals as goal

pub returns-in-Some-clause-same : goal.returns-in-Some-clause-same
returns-in-Some-clause-same g c = λ one. entry_whole _ c.args.said.now _ c.in-Some.newline.now (c.as_slice.ensures.value ∙ c.in_ok-line.ensures.text) c.in-Some.ensures.some one

pub returns-in-Some-clause-all : goal.returns-in-Some-clause-all
returns-in-Some-clause-all g c = λ is. entry_found _ c.args.said.now _ c.in-Some.newline.now (c.as_slice.ensures.value ∙ c.in_ok-line.ensures.text) c.in-Some.ensures.some is
