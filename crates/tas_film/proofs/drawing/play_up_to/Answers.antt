use Rattle.std.proofs.lemmas.Grind.{common_steps}
use Rattle.std.proofs.Common.{◌<◌, ◌∙◌, length, arith}
use Rattle.tas_green.proofs.RunLemmas.{after_more}
use Rattle.tas_film.proofs.drawing.play_up_to.Goals as goal

pub loop-frame-preserved : goal.loop-frame-preserved
loop-frame-preserved g c =
    let movie = c.args.movie.now in
    let lt : c.loop-frame.frame < length movie.inputs = omega (arith, c.loop-frame-test.true, c.requires.within) in
    record {
      state = after_more movie.cart movie.inputs c.loop-frame.frame c.loop-frame.state c.play_unseen.new.state _ (rw (c.cart.ensures, c.inputs-inputs.ensures.inputs) at c.play_unseen.ensures.state) c.loop-frame.invariant.state lt;
      meter = omega (arith, c.play_unseen.ensures.meter, c.loop-frame.invariant.meter, c.loop-frame.auto.frame);
    }

pub returns-clause-state : goal.returns-clause-state
returns-clause-state g c = grind (arith, common_steps)

pub loop-frame-init : goal.loop-frame-init
loop-frame-init g c = record { state = c.unpack-state.ensures ∙ c.requires.start; meter = omega arith }
