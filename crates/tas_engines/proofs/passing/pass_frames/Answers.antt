use Rattle.std.proofs.Common.{◌∙◌, ap}
use Rattle.vcs_machine.specs.Machine.{power_on}
use Rattle.tas_green.proofs.RunLemmas.{after_none}
use Rattle.tas_engines.proofs.passing.pass_frames.Goals as goal

pub loop-k-init : goal.loop-k-init
loop-k-init g c = c.power_on-state.ensures ∙ ap power_on c.cart.ensures ∙ after_none c.args.movie.now.cart c.args.movie.now.inputs
