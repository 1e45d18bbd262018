use Rattle.std.proofs.Common.{refl, sym}
use Rattle.tas_program.proofs.desks.note_desk.Goals as goal

pub returns-in-Some : goal.returns-in-Some
returns-in-Some g c input = rw (sym c.in-Some.ensures) (refl, refl)

pub returns-in-None : goal.returns-in-None
returns-in-None g c input = rw (sym c.in-None.ensures) (c.note_pairs.ensures input)
