use Rattle.std.proofs.lemmas.Grind.{common_steps}
use Rattle.std.proofs.Common.{◌∙◌, arith}
use Rattle.tas_engines.proofs.CompareLemmas.{shared_state, nothing_before}
use Rattle.tas_engines.proofs.compare.compare_frames.Goals as goal

pub loop-k-init : goal.loop-k-init
loop-k-init g c =
    let old = c.args.old.now in
    let new = c.args.new.now in
    record {
      old = c.in_ok-old_side.ensures ∙ c.pass_frames-state.ensures;
      new = c.in_ok-new_side.ensures ∙ c.pass_frames-state.ensures ∙ shared_state old new c.args.front c.requires.carts c.requires.front c.args.front (omega arith);
      found = nothing_before old new c.args.front c.requires.carts c.requires.front;
      within = c.requires.order;
    }

pub loop-k-preserved : goal.loop-k-preserved
loop-k-preserved g c = grind (arith, common_steps)

pub compare_frame-requires-clause-old : goal.compare_frame-requires-clause-old
compare_frame-requires-clause-old g c = grind (arith, common_steps)

pub overflow_add-k : goal.overflow_add-k
overflow_add-k g c = grind (arith, common_steps)

pub compare_frame-requires-clause-new : goal.compare_frame-requires-clause-new
compare_frame-requires-clause-new g c = grind (arith, common_steps)
