use Rattle.std.proofs.lemmas.Grind.{common_steps}
use Rattle.std.proofs.Common.{◌+◌, length, refl, ap, sym, ◌∙◌, arith}
use Rattle.vcs_machine.specs.Machine.{power_on}
use Rattle.vcs_machine.proofs.Afters.{after_from-nil, after_from-played}
use Rattle.tas_search.proofs.starting.state_at.Goals as goal

pub loop-k-init : goal.loop-k-init
loop-k-init g c = c.power_on-state.ensures ∙ ap power_on c.cart.ensures ∙ sym (after_from-nil c.args.movie.now.cart (power_on c.args.movie.now.cart))

pub loop-k-preserved : goal.loop-k-preserved
loop-k-preserved g c =
    let movie = c.args.movie.now in
    after_from-played movie.cart (power_on movie.cart) c.loop-k.state c.play_unseen.new.state movie.inputs c.loop-k.k (c.loop-k.k + 1) _
    (rw (c.cart-in-loop-k.ensures, c.inputs-inputs.ensures.inputs) at c.play_unseen.ensures.state) c.loop-k.invariant
    (omega (arith, c.loop-k-test.true, c.min-count.ensures, ap length c.inputs-inputs.ensures.inputs)) refl

pub returns : goal.returns
returns g c = grind (arith, common_steps)
