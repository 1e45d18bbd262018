use Rattle.std.proofs.Common.{rules}
use Rattle.tas_movie.proofs.editing.check_insertion.Goals as goal

pub returns-then-saturating_add-gt-MAX_FRAMES : goal.returns-then-saturating_add-gt-MAX_FRAMES
returns-then-saturating_add-gt-MAX_FRAMES c = search rules
