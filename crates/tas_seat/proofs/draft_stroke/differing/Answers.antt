use Rattle.std.proofs.Common.{arith}
use Rattle.std.proofs.lemmas.Grind.{common_steps}
use Rattle.tas_seat.proofs.StrokeLemmas.{differ}
use Rattle.tas_seat.proofs.draft_stroke.differing.Goals as goal

pub returns-clause-differ : goal.returns-clause-differ
returns-clause-differ g c =
    differ c.args.base.now c.args.movie.now c.inputs-old.result.now c.inputs-new.result.now c.common_front-front.result c.common_back-back.result c.inputs-old.ensures.inputs c.inputs-new.ensures.inputs c.common_front-front.ensures c.common_back-back.ensures

pub overflow_sub-olds : goal.overflow_sub-olds
overflow_sub-olds g c = grind (arith, common_steps)

pub slice_bounds-news-start : goal.slice_bounds-news-start
slice_bounds-news-start g c = grind (arith, common_steps)

pub slice_bounds-news-count : goal.slice_bounds-news-count
slice_bounds-news-count g c = grind (arith, common_steps)

pub overflow_sub-news : goal.overflow_sub-news
overflow_sub-news g c = grind (arith, common_steps)

pub slice_bounds-olds-start : goal.slice_bounds-olds-start
slice_bounds-olds-start g c = grind (arith, common_steps)

pub slice_bounds-olds-count : goal.slice_bounds-olds-count
slice_bounds-olds-count g c = grind (arith, common_steps)
