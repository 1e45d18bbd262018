use Rattle.std.proofs.Common.{◌∙◌, ap}
use Rattle.vcs_machine.specs.Machine.{power_on}
use Rattle.tas_green.proofs.RunLemmas.{after_none}
use Rattle.tas_engines.proofs.lag.lag_text.Goals as goal

pub lag_between-requires-clause-begin : goal.lag_between-requires-clause-begin
lag_between-requires-clause-begin g c =
    let movie = c.args.movie.now in
    c.power_on-begin.ensures ∙ ap power_on c.cart.ensures ∙ after_none movie.cart movie.inputs
