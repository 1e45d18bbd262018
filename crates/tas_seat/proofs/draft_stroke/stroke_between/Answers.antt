use Rattle.std.proofs.lemmas.Result.{IfOk-weaker, on_err_weaker}
use Rattle.tas_seat.proofs.StrokeLemmas.{differ_stroke, differ_leads, differ_puts_in}
use Rattle.tas_seat.proofs.draft_stroke.stroke_between.Goals as goal

pub returns-clause-stroke : goal.returns-clause-stroke
returns-clause-stroke g c =
    IfOk-weaker c.stroke_at.result _ _ (λ stroke is. differ_stroke g.row.A.Denot c.args.base.now c.args.movie.now _ _ _ _ c.differing-front.ensures.differ is) c.stroke_at.ensures.stroke

pub returns-clause-leads : goal.returns-clause-leads
returns-clause-leads g c =
    IfOk-weaker c.stroke_at.result _ _ (λ stroke is. differ_leads g.row.A.Denot c.args.base.now c.args.movie.now _ _ _ _ c.requires c.differing-front.ensures.most c.differing-front.ensures.differ is) c.stroke_at.ensures.stroke

pub returns-clause-memory : goal.returns-clause-memory
returns-clause-memory g c =
    on_err_weaker c.stroke_at.result (λ some. differ_puts_in c.args.base.now c.args.movie.now _ _ _ c.differing-front.ensures.differ some) c.stroke_at.ensures.memory
