use Rattle.std.proofs.Common.{Ok, refl, ap}
use Rattle.vcs_tia.specs.Image.{ppm_bytes}
use Rattle.tas_green.proofs.RunLemmas.{after_more, picture_drawn}
use Rattle.tas_film.proofs.DrawingLemmas.{grown}
use Rattle.tas_film.proofs.pixmaps.Pixmaps.append_frame.Goals as goal

pub returns-in-Err-clause-stop : goal.returns-in-Err-clause-stop
returns-in-Err-clause-stop g c =
    let movie = c.args.movie.now in
    let next = after_more movie.cart movie.inputs c.args.frame c.args.state.now c.play.new.state _ (rw (c.cart.ensures, c.inputs-inputs.ensures.inputs) at c.play.ensures.state) c.requires.start c.requires.within in
    (refl, rw (← next) c.in-Err.ensures.halted)

pub returns-clause-drawn : goal.returns-clause-drawn
returns-clause-drawn g c =
    let movie = c.args.movie.now in
    let next = after_more movie.cart movie.inputs c.args.frame c.args.state.now c.play.new.state _ (rw (c.cart.ensures, c.inputs-inputs.ensures.inputs) at c.play.ensures.state) c.requires.start c.requires.within in
    rw (← next) c.in_default.ensures.halted

pub returns-clause-state : goal.returns-clause-state
returns-clause-state g c =
    let movie = c.args.movie.now in
    after_more movie.cart movie.inputs c.args.frame c.args.state.now c.play.new.state _ (rw (c.cart.ensures, c.inputs-inputs.ensures.inputs) at c.play.ensures.state) c.requires.start c.requires.within

pub returns-clause-pixmap : goal.returns-clause-pixmap
returns-clause-pixmap g c =
    let movie = c.args.movie.now in
    let none = c.in_default.ensures.halted in
    let drawn = picture_drawn movie.cart movie.inputs c.args.frame c.args.frame c.args.state.now c.play.new.state _ c.play.new.picture (Ok tt) refl (rw (c.cart.ensures, c.inputs-inputs.ensures.inputs) at c.in_default.ensures.picture) none c.requires.start c.requires.within none in
    grown _ _ _ _ _ c.self.view_is c.in_default-ppm.ensures.ok (ap ppm_bytes drawn)

pub returns-in-Err-ppm-clause-stop : goal.returns-in-Err-ppm-clause-stop
returns-in-Err-ppm-clause-stop g c =
    let movie = c.args.movie.now in
    let next = after_more movie.cart movie.inputs c.args.frame c.args.state.now c.play.new.state _ (rw (c.cart.ensures, c.inputs-inputs.ensures.inputs) at c.play.ensures.state) c.requires.start c.requires.within in
    rw (← next) c.in_default.ensures.halted
