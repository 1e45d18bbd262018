use Rattle.std.proofs.Common.{◌≡◌, ◌<◌, ◌∙◌, arith, get_or}
use Rattle.vcs_inputs.specs.Input.{no_input}
use Rattle.vcs_machine.proofs.LagFrames.{lag_law}
use Rattle.tas_green.specs.Run.{state_after}
use Rattle.tas_engines.specs.Lag.{is_lag}
use Rattle.tas_engines.proofs.StretchLemmas.{nothing_found, further, finished}
use Rattle.tas_engines.proofs.lag.lag_between.Goals as goal

pub loop-k-init : goal.loop-k-init
loop-k-init g c =
    let movie = c.args.movie.now in
    record {
      state = c.requires.begin;
      way = nothing_found (is_lag movie) c.args.from c.args.to _ c.new-out.ensures.items;
    }

pub loop-k-preserved : goal.loop-k-preserved
loop-k-preserved g c =
    let movie = c.args.movie.now in
    let l = c.loop-k in
    let within : c.loop-k.k < c.args.to = omega (arith, c.loop-k-test.true) in
    record {
      state = c.pass_for_lag-is_lag.ensures.state;
      way = further (is_lag movie) c.args.from c.args.to l.start l.k l.out.items l.invariant.way c.pass_for_lag-is_lag.result c.in_ok-start.start c.next_start.new.out.items
          c.pass_for_lag-is_lag.ensures.lag within c.in_ok-start.ensures.next c.in_ok-start.ensures.text;
    }

pub returns-clause-lines : goal.returns-clause-lines
returns-clause-lines g c =
    let movie = c.args.movie.now in
    let l = c.loop-k in
    let ended : c.loop-k.k ≡ c.args.to = omega (arith, c.loop-k-test.false, c.loop-k.auto.k-end, c.requires.order) in
    c.in_ok-push_stretch.ensures ∙ finished (is_lag movie) c.args.from c.args.to l.start l.k l.out.items l.invariant.way ended

pub returns-clause-law : goal.returns-clause-law
returns-clause-law g c = λ k other is.
    let movie = c.args.movie.now in
    lag_law movie.cart (state_after movie k) (get_or movie.inputs k no_input) other is
