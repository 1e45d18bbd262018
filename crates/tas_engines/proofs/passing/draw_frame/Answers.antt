use Rattle.std.proofs.Common.{refl}
use Rattle.tas_green.proofs.RunLemmas.{after_more, answered, picture_drawn, where_drawn}
use Rattle.tas_engines.proofs.passing.draw_frame.Goals as goal

pub returns-clause-state : goal.returns-clause-state
returns-clause-state g c =
    let movie = c.args.movie.now in
    after_more movie.cart movie.inputs c.args.k c.args.state.now c.play.new.state _ (rw (c.cart.ensures, c.inputs.ensures.inputs) at c.play.ensures.state) c.requires.start c.requires.within

pub returns-clause-answer : goal.returns-clause-answer
returns-clause-answer g c =
    let movie = c.args.movie.now in
    let next = after_more movie.cart movie.inputs c.args.k c.args.state.now c.play.new.state _ (rw (c.cart.ensures, c.inputs.ensures.inputs) at c.play.ensures.state) c.requires.start c.requires.within in
    rw (← next) (answered c.play.result c.play.new.state.halt c.play.ensures.halted)

pub returns-clause-picture : goal.returns-clause-picture
returns-clause-picture g c =
    let movie = c.args.movie.now in
    where_drawn c.play.result c.play.new.state.halt c.play.ensures.halted _
    (λ none. picture_drawn movie.cart movie.inputs c.args.k c.args.k c.args.state.now c.play.new.state _ c.play.new.picture c.play.result refl (rw (c.cart.ensures, c.inputs.ensures.inputs) at c.play.ensures.picture) c.play.ensures.halted c.requires.start c.requires.within none)
