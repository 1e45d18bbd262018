use Rattle.tas_published.proofs.EntryLemmas.{restored}
use Rattle.tas_published.proofs.journal.take_back.Goals as goal

pub returns : goal.returns
returns g c = λ before added more at. restored before _ _ added _ more c.truncate.ensures.items at
