use Rattle.std.proofs.Common.{Some, ap, sym}
use Rattle.std.proofs.lemmas.Result.{IfOk-weaker}
use Rattle.tas_seat.proofs.TextLemmas.{text_made}
use Rattle.tas_seat.proofs.looks.answer_drawn.Goals as goal

pub returns-in-Err : goal.returns-in-Err
returns-in-Err g c = rw c.in-Err.is c.unshown_answer.ensures

pub returns : goal.returns
returns g c =
    rw c.in-Ok.is
    (text_made _ c.picture_answer-bytes.result c.answer_or_refusal.result (λ bytes. bytes.items) c.answer_or_refusal.ensures
    (IfOk-weaker c.picture_answer-bytes.result _ _ (λ bytes is. ap (λ (text : _). Some text) (sym is)) c.picture_answer-bytes.ensures))
