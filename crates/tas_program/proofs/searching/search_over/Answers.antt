use Rattle.std.proofs.Common.{Ok, Err, refl}
use Rattle.tas_program.proofs.SearchLemmas.{in_bytes}
use Rattle.tas_program.proofs.searching.search_over.Goals as goal

pub returns-in-Ok : goal.returns-in-Ok
returns-in-Ok g c =
    (c.asked_of-asked.result, c.asked_of-asked.ensures, Ok c.in-Ok.verdict.items, refl, in_bytes (λ verdict. verdict.items) c.asked_of-asked.result _ _ _ _ _ _ (Ok c.in-Ok.verdict) c.in-Ok.ensures)

pub returns-in-Err : goal.returns-in-Err
returns-in-Err g c =
    (c.asked_of-asked.result, c.asked_of-asked.ensures, Err c.in-Err.error, refl, in_bytes (λ verdict. verdict.items) c.asked_of-asked.result _ _ _ _ _ _ (Err c.in-Err.error) c.in-Err.ensures)
