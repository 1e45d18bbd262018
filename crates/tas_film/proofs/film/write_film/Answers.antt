use Rattle.std.proofs.Common.{◌≡◌, ◌∙◌, sym, ap, arith}
use Rattle.std.proofs.lemmas.Result.{err_from_is_err_and}
use Rattle.tas_green.proofs.RunLemmas.{after_none}
use Rattle.tas_film.proofs.DrawingLemmas.{drawn_none, drawn_more}
use Rattle.tas_film.proofs.WriteLemmas.{length-pixmap}
use Rattle.tas_film.proofs.FilmLemmas.{nothing_yet, one_more, film_stopped, film_done}
use Rattle.tas_film.proofs.film.write_film.Goals as goal

pub play_up_to-state-requires-clause-start : goal.play_up_to-state-requires-clause-start
play_up_to-state-requires-clause-start g c =
    let movie = c.args.movie.now in
    c.pack.ensures ∙ (rw c.cart.ensures at c.power_on.ensures ∙ after_none movie.cart movie.inputs)

pub loop-frame-init : goal.loop-frame-init
loop-frame-init g c = record {
  state = c.play_up_to-state.ensures.state;
  all = drawn_none c.args.movie.now c.args.from;
  size = omega arith;
  out = nothing_yet c.args.movie.now c.args.from _;
}

pub show_frame-requires-clause-few : goal.show_frame-requires-clause-few
show_frame-requires-clause-few g c =
    let one = length-pixmap c.args.movie.now c.loop-frame.frame in
    omega (arith, one, c.loop-frame.invariant.size, c.requires.within, c.len-len.ensures.len, c.len-len.ensures.bound)

pub returns-in_err-show_frame : goal.returns-in_err-show_frame
returns-in_err-show_frame g c =
    let p = err_from_is_err_and c.from_residual.result c.from_residual.ensures.1 in
    rw (p.1, p.2)
    (film_stopped c.args.movie.now c.args.from c.args.to c.loop-frame.frame _ _ _ c.loop-frame.written c.in_err-show_frame.field-0.0 (omega arith) (omega arith) c.loop-frame.invariant.all c.loop-frame.invariant.size c.loop-frame.invariant.out
    c.in_err-show_frame.ensures.stop)

pub loop-frame-preserved : goal.loop-frame-preserved
loop-frame-preserved g c =
    let movie = c.args.movie.now in
    let frame = c.loop-frame.frame in
    record {
      state = c.in_ok-show_frame.ensures.state;
      all = drawn_more movie c.args.from frame c.loop-frame.invariant.all c.in_ok-show_frame.ensures.drawn;
      size = omega (arith, c.loop-frame.invariant.size);
      out = one_more movie c.args.from frame _ _ _ (omega arith) c.loop-frame.invariant.out c.in_ok-show_frame.ensures.out;
    }

pub returns : goal.returns
returns g c = film_done c.args.movie.now c.args.from c.loop-frame.frame c.args.to _ _ (omega arith) c.loop-frame.invariant.all c.loop-frame.invariant.out
