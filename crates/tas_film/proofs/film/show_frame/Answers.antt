use Rattle.std.proofs.Common.{◌≡◌, ◌-◌, ◌∙◌, List, ℕ, Ok, refl, ap, subst, sym, arith}
use Rattle.std.specs.Io.KnownBytes.{Appends}
use Rattle.byte_text.specs.CutOff.{IsCutOff}
use Rattle.vcs_tia.specs.Image.{ppm_bytes}
use Rattle.tas_green.specs.Run.{picture_of}
use Rattle.tas_green.proofs.RunLemmas.{after_more, picture_drawn}
use Rattle.tas_film.proofs.WriteLemmas.{length-pixmap}
use Rattle.tas_film.proofs.film.show_frame.Goals as goal

pub returns-in-Err-clause-stop : goal.returns-in-Err-clause-stop
returns-in-Err-clause-stop g c =
    let movie = c.args.movie.now in
    let next = after_more movie.cart movie.inputs c.args.frame c.args.state.now c.play.new.state _ (rw (c.cart.ensures, c.inputs-inputs.ensures.inputs) at c.play.ensures.state) c.requires.start c.requires.within in
    (refl, rw (← next) c.in-Err.ensures.halted, refl)

pub write_picture-requires : goal.write_picture-requires
write_picture-requires g c =
    let movie = c.args.movie.now in
    let none = c.in_default.ensures.halted in
    let drawn : c.play.new.picture ≡ picture_of movie c.args.frame =
    picture_drawn movie.cart movie.inputs c.args.frame c.args.frame c.args.state.now c.play.new.state _ c.play.new.picture (Ok tt) refl (rw (c.cart.ensures, c.inputs-inputs.ensures.inputs) at c.in_default.ensures.picture) none c.requires.start c.requires.within none in
    rw drawn c.requires.few

pub returns-in-Ok-clause-drawn : goal.returns-in-Ok-clause-drawn
returns-in-Ok-clause-drawn g c =
    let movie = c.args.movie.now in
    let next = after_more movie.cart movie.inputs c.args.frame c.args.state.now c.play.new.state _ (rw (c.cart.ensures, c.inputs-inputs.ensures.inputs) at c.play.ensures.state) c.requires.start c.requires.within in
    rw (← next) c.in_default.ensures.halted

pub returns-in-Ok-clause-state : goal.returns-in-Ok-clause-state
returns-in-Ok-clause-state g c =
    let movie = c.args.movie.now in
    after_more movie.cart movie.inputs c.args.frame c.args.state.now c.play.new.state _ (rw (c.cart.ensures, c.inputs-inputs.ensures.inputs) at c.play.ensures.state) c.requires.start c.requires.within

pub returns-in-Ok-clause-out : goal.returns-in-Ok-clause-out
returns-in-Ok-clause-out g c =
    let movie = c.args.movie.now in
    let none = c.in_default.ensures.halted in
    let drawn : c.play.new.picture ≡ picture_of movie c.args.frame =
    picture_drawn movie.cart movie.inputs c.args.frame c.args.frame c.args.state.now c.play.new.state _ c.play.new.picture (Ok tt) refl (rw (c.cart.ensures, c.inputs-inputs.ensures.inputs) at c.in_default.ensures.picture) none c.requires.start c.requires.within none in
    subst (Appends _ _) (ap ppm_bytes drawn) c.in-Ok.ensures.ok

pub returns-in-Err-write_picture-clause-stop : goal.returns-in-Err-write_picture-clause-stop
returns-in-Err-write_picture-clause-stop g c =
    let movie = c.args.movie.now in
    let none = c.in_default.ensures.halted in
    let next = after_more movie.cart movie.inputs c.args.frame c.args.state.now c.play.new.state _ (rw (c.cart.ensures, c.inputs-inputs.ensures.inputs) at c.play.ensures.state) c.requires.start c.requires.within in
    let drawn : c.play.new.picture ≡ picture_of movie c.args.frame =
    picture_drawn movie.cart movie.inputs c.args.frame c.args.frame c.args.state.now c.play.new.state _ c.play.new.picture (Ok tt) refl (rw (c.cart.ensures, c.inputs-inputs.ensures.inputs) at c.in_default.ensures.picture) none c.requires.start c.requires.within none in (
      rw (← next) none,
      c.in-Err-write_picture.ensures.from,
      subst
          (λ (p : List ℕ). IsCutOff (g.W.Write.contents c.args.output.now) (g.W.Write.contents c.write_picture.new.output) (ppm_bytes p) (c.in-Err-write_picture.fault.written - c.args.before))
          drawn c.in-Err-write_picture.ensures.cut,
    )
