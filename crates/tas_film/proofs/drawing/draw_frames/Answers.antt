use Rattle.std.proofs.lemmas.Grind.{common_steps}
use Rattle.std.proofs.Common.{◌∙◌, arith}
use Rattle.tas_film.proofs.DrawingLemmas.{drawn_none, drawn_more, pixmaps_none, pixmaps_more, stopped_at, shown_all}
use Rattle.tas_film.proofs.drawing.draw_frames.Goals as goal

pub loop-frame-init : goal.loop-frame-init
loop-frame-init g c = record {
  state = c.requires.start;
  all = drawn_none c.args.movie.now c.args.first;
  are = c.requires.empty ∙ pixmaps_none c.args.movie.now c.args.first;
  meter = omega arith;
}

pub returns-in-Err-clause-shows : goal.returns-in-Err-clause-shows
returns-in-Err-clause-shows g c =
    stopped_at c.args.movie.now c.args.first c.loop-frame.frame c.args.end c.append_frame.new.self c.in-Err.stop (omega arith) (omega arith) c.loop-frame.invariant.all c.in-Err.ensures.stop

pub loop-frame-preserved : goal.loop-frame-preserved
loop-frame-preserved g c =
    let movie = c.args.movie.now in
    record {
      state = c.in_default.ensures.state;
      all = drawn_more movie c.args.first c.loop-frame.frame c.loop-frame.invariant.all c.in_default.ensures.drawn;
      are = pixmaps_more movie c.args.first c.loop-frame.frame c.loop-frame.pixmaps c.append_frame.new.self (omega arith) c.loop-frame.invariant.are c.in_default.ensures.pixmap;
      meter = omega arith;
    }

pub returns-clause-shows : goal.returns-clause-shows
returns-clause-shows g c = shown_all c.args.movie.now c.args.first c.loop-frame.frame c.args.end c.loop-frame.pixmaps (omega arith) c.loop-frame.invariant.all c.loop-frame.invariant.are

pub returns-in-Err-clause-meter : goal.returns-in-Err-clause-meter
returns-in-Err-clause-meter g c = grind (arith, common_steps)
