use Rattle.std.proofs.Common.{◌≡◌, ℕ, ◌-◌, ◌+◌, ◌∙◌, sym, ap, replicate, arith}
use Rattle.vcs_machine.specs.Machine.{Machine, after_from}
use Rattle.tas_search.specs.Space.{are_lag_frames}
use Rattle.tas_search.proofs.HeldLemmas.{held_more, held_none, ignored_more, lag_more, lag_none}
use Rattle.tas_search.proofs.space.noted_frames.Goals as goal
use Rattle.tas_search.proofs.space.noted_frames.Goals.{then-lag, else-lag}

pub loop-played-preserved : goal.loop-played-preserved
loop-played-preserved g c =
    let cart = c.args.cart.now in
    let input = c.args.input in
    let count = c.args.count in
    let played = c.loop-played.played in
    let frames = c.play_for_lag-ignored in
    record {
      state =
          ap (λ (m : Machine). after_from cart m (replicate (count - (played + 1)) input)) frames.ensures.state ∙ sym (held_more cart c.loop-played.state input count played (omega (arith, c.loop-played-test.true)))
          ∙ c.loop-played.invariant.state;
      lag = lag_more cart c.loop-played.state frames.new.state input count played c.loop-played.lag frames.result _ (are_lag_frames cart c.args.start input count) (omega (arith, c.loop-played-test.true))
          frames.ensures.state frames.ensures.lag
          (elim c.if-lag.branch [
            | then-lag w ↦ cc
            | else-lag w ↦ cc
          ]) c.loop-played.invariant.lag;
      alike = λ yes other.
          elim c.if-lag.branch [
            | then-lag w ↦
                ignored_more cart c.loop-played.state frames.new.state input other count played (after_from cart c.args.start (replicate count other)) (omega (arith, c.loop-played-test.true)) frames.ensures.state
                (frames.ensures.law (sym w.lag-is ∙ yes) other).state (c.loop-played.invariant.alike w.if-lag.true other)
            | else-lag w ↦ absurd cc
          ];
    }

pub returns-clause-state : goal.returns-clause-state
returns-clause-state g c =
    let cart = c.args.cart.now in
    let all : c.loop-played.played ≡ c.args.count = omega arith in
    sym (held_none cart c.loop-played.state c.args.input c.args.count) ∙ ap (λ (k : ℕ). after_from cart c.loop-played.state (replicate (c.args.count - k) c.args.input)) (sym all)
    ∙ c.loop-played.invariant.state

pub returns-clause-alike : goal.returns-clause-alike
returns-clause-alike g c = λ yes other.
    let cart = c.args.cart.now in
    let all : c.loop-played.played ≡ c.args.count = omega arith in
    sym (c.loop-played.invariant.alike yes other) ∙ ap (λ (k : ℕ). after_from cart c.loop-played.state (replicate (c.args.count - k) other)) all
    ∙ held_none cart c.loop-played.state other c.args.count

pub returns-clause-lag : goal.returns-clause-lag
returns-clause-lag g c =
    lag_none c.args.cart.now c.loop-played.state c.args.input c.args.count c.loop-played.played c.loop-played.lag (are_lag_frames c.args.cart.now c.args.start c.args.input c.args.count) (omega arith)
    c.loop-played.invariant.lag
