use Rattle.std.proofs.Common.{arith}
use Rattle.std.proofs.lemmas.Grind.{common_steps}
use Rattle.tas_seat.proofs.draft.Draft.change.Goals as goal

pub returns-then-at-eq-MAX_EDITS : goal.returns-then-at-eq-MAX_EDITS
returns-then-at-eq-MAX_EDITS g c = grind (arith, common_steps)
