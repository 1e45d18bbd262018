use Rattle.std.proofs.Common.{arith}
use Rattle.tas_engines.proofs.RunLemmas.{no_run, frames_fit}
use Rattle.tas_engines.proofs.alike.frames_of.Goals as goal

pub overflow_add-count : goal.overflow_add-count
overflow_add-count c =
    let counted = c.loop-i.invariant in
    let here = c.loop-i-test.true in
    let all = c.requires in
    omega (arith, counted, all, frames_fit c.args.runs.now c.loop-i.i no_run here)
