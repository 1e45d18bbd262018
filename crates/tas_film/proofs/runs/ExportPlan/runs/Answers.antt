use Rattle.std.proofs.Common.{◌+◌, arith}
use Rattle.tas_film.proofs.RunLemmas.{next_behind, next_within, empty_more}
use Rattle.tas_film.proofs.runs.ExportPlan.runs.Goals as goal

pub overflow_sub-frames : goal.overflow_sub-frames
overflow_sub-frames g c =
    let up = next_behind c.args.self.now c.loop-number.number c.requires.some in
    omega arith

pub new-requires : goal.new-requires
new-requires g c =
    let high = next_within c.args.self.now (c.loop-number.number + 1) c.requires.some c.requires.order (omega arith) in
    omega arith

pub loop-number-preserved : goal.loop-number-preserved
loop-number-preserved g c = record {
  count = omega (arith, c.in_ok-push.ensures.len, c.loop-number.invariant.count);
  empty = empty_more _ _ _ c.loop-number.invariant.empty c.in_ok-pixmaps.ensures c.in_ok-push.ensures.items;
}
