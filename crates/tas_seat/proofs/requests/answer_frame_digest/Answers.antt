use Rattle.std.proofs.Common.{◌+◌, ap, sym, subst}
use Rattle.std.specs.Prelude.{OnOk}
use Rattle.tas_green.specs.View.{ViewContent, both_of}
use Rattle.tas_green.specs.Window.{IsOneAway}
use Rattle.tas_seat.proofs.AnswerLemmas.{digest_answered, frame_here}
use Rattle.tas_seat.proofs.requests.answer_frame_digest.Goals as goal

pub answer_digest-requires-clause-within : goal.answer_digest-requires-clause-within
answer_digest-requires-clause-within g c =
    let e = c.picture-drawn.ensures in
    frame_here c.args.seat.now c.picture-drawn.new.seat c.view.result.now.movie c.args.k c.picture-drawn.result e.reply e.zone (ap (λ (v : ViewContent). v.movie) c.view.ensures)

pub answer_digest-requires-clause-forward : goal.answer_digest-requires-clause-forward
answer_digest-requires-clause-forward g c =
    subst (λ (v : ViewContent). OnOk c.picture-drawn.result (IsOneAway v.movie (c.args.k + 1) (both_of v))) (sym c.view.ensures) c.picture-drawn.ensures.forward

pub returns : goal.returns
returns g c =
    let e = c.picture-drawn.ensures in
    digest_answered c.args.seat.now c.picture-drawn.new.seat c.view.result.now.movie c.args.k c.picture-drawn.result c.answer_digest.result (λ bytes. bytes.items) e.seat e.reply e.zone (ap (λ (v : ViewContent). v.movie) c.view.ensures)
    c.answer_digest.ensures
