use Rattle.std.proofs.Common.{◌∙◌, arith}
use Rattle.tas_green.proofs.RunLemmas.{after_more}
use Rattle.tas_engines.proofs.PassingLemmas.{past_end}
use Rattle.tas_engines.proofs.passing.pass_frame.Goals as goal

pub returns-then-k-len : goal.returns-then-k-len
returns-then-k-len g c =
    let movie = c.args.movie.now in
    after_more movie.cart movie.inputs c.args.k c.args.state.now c.play_unseen.new.state _ (rw (c.cart.ensures, c.inputs.ensures.inputs) at c.play_unseen.ensures.state) c.requires (omega (arith, c.if-k-len.true, c.len.ensures.len))

pub returns-else-k-len : goal.returns-else-k-len
returns-else-k-len g c = c.requires ∙ past_end c.args.movie.now c.args.k (omega (arith, c.if-k-len.false, c.len.ensures.len))
