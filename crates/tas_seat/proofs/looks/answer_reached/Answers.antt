use Rattle.tas_seat.proofs.TextLemmas.{text_made}
use Rattle.tas_seat.proofs.looks.answer_reached.Goals as goal

pub returns-in-Err : goal.returns-in-Err
returns-in-Err g c = rw (c.in-Err.is, ← c.into.ensures) c.unshown_answer.ensures

pub find-bytes-requires : goal.find-bytes-requires
find-bytes-requires g c = rw c.in-Ok.is at c.requires

pub returns : goal.returns
returns g c = rw c.in-Ok.is (text_made _ c.find-bytes.result c.answer_or_refusal.result (λ bytes. bytes.items) c.answer_or_refusal.ensures c.find-bytes.ensures)
