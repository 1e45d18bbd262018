use Rattle.tas_green.proofs.RunLemmas.{after_more}
use Rattle.tas_engines.proofs.StretchLemmas.{lag_at}
use Rattle.tas_engines.proofs.lag.pass_for_lag.Goals as goal

pub returns-clause-state : goal.returns-clause-state
returns-clause-state g c =
    let movie = c.args.movie.now in
    after_more movie.cart movie.inputs c.args.k c.args.state.now c.play_for_lag.new.state _ (rw (c.cart.ensures, c.inputs.ensures.inputs) at c.play_for_lag.ensures.state) c.requires.start c.requires.within

pub returns-clause-lag : goal.returns-clause-lag
returns-clause-lag g c =
    let movie = c.args.movie.now in
    lag_at movie c.args.k c.args.state.now _ c.play_for_lag.result (rw (c.cart.ensures, c.inputs.ensures.inputs) at c.play_for_lag.ensures.lag) c.requires.start c.requires.within
