use Rattle.std.proofs.Common.{◌+◌, ap, sym, subst}
use Rattle.std.specs.Prelude.{OnOk}
use Rattle.tas_green.specs.View.{ViewContent, both_of}
use Rattle.tas_green.specs.Window.{IsOneAway}
use Rattle.tas_seat.proofs.DraftLemmas.{digest_answered, frame_in}
use Rattle.tas_seat.proofs.draft.Draft.answer_frame_digest.Goals as goal

pub answer_digest-requires-clause-within : goal.answer_digest-requires-clause-within
answer_digest-requires-clause-within g c =
    frame_in c.args.self.now c.picture-drawn.new.self c.view.result.now.movie c.args.frame c.picture-drawn.result (ap (λ (v : ViewContent). v.movie) c.view.ensures.view) c.picture-drawn.ensures.picture

pub answer_digest-requires-clause-forward : goal.answer_digest-requires-clause-forward
answer_digest-requires-clause-forward g c =
    subst (λ (v : ViewContent). OnOk c.picture-drawn.result (IsOneAway v.movie (c.args.frame + 1) (both_of v))) (sym c.view.ensures.view) c.picture-drawn.ensures.forward

pub returns : goal.returns
returns g c =
    digest_answered c.args.self.now c.picture-drawn.new.self c.view.result.now.movie c.args.frame c.picture-drawn.result c.answer_digest.result (λ bytes. bytes.items) c.picture-drawn.ensures.picture (ap (λ (v : ViewContent). v.movie) c.view.ensures.view)
    c.answer_digest.ensures
