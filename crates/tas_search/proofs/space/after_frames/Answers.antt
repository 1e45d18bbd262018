use Rattle.std.proofs.Common.{◌≡◌, ℕ, ◌-◌, ◌+◌, ◌∙◌, sym, ap, replicate, arith}
use Rattle.vcs_machine.specs.Machine.{Machine, after_from}
use Rattle.tas_search.proofs.HeldLemmas.{held_more, held_none}
use Rattle.tas_search.proofs.space.after_frames.Goals as goal

pub loop-played-preserved : goal.loop-played-preserved
loop-played-preserved g c =
    let cart = c.args.cart.now in
    let played = c.loop-played.played in
    ap (λ (m : Machine). after_from cart m (replicate (c.args.count - (played + 1)) c.args.input)) c.play_unseen.ensures.state
    ∙ sym (held_more cart c.loop-played.state c.args.input c.args.count played (omega arith))
    ∙ c.loop-played.invariant

pub returns : goal.returns
returns g c =
    let cart = c.args.cart.now in
    let all : c.loop-played.played ≡ c.args.count = omega arith in
    sym (held_none cart c.loop-played.state c.args.input c.args.count)
    ∙ ap (λ (k : ℕ). after_from cart c.loop-played.state (replicate (c.args.count - k) c.args.input)) (sym all)
    ∙ c.loop-played.invariant
