use Rattle.std.proofs.Common.{length}
use Rattle.tas_published.specs.History.{movie_of}
use Rattle.tas_seat.proofs.AnswerLemmas.{look_answered, reached_here, movie_here}
use Rattle.tas_seat.proofs.ReachLemmas.{can_reached}
use Rattle.tas_seat.proofs.requests.answer_look.Goals as goal

pub answer_reached-requires : goal.answer_reached-requires
answer_reached-requires g c =
    let now = c.state_for-reached.new.seat in
    let e = c.state_for-reached.ensures in
    can_reached (movie_of now.front) c.zone_movie.result.now (length now.front) c.args.look _ _ _ _ _ c.state_for-reached.result c.frames_for-from.ensures (reached_here c.args.seat.now now _ _ c.state_for-reached.result e.reply e.zone)
    (movie_here c.args.seat.now now c.zone_movie.result.now _ c.state_for-reached.result c.zone_movie.ensures e.zone)

pub returns : goal.returns
returns g c =
    let e = c.state_for-reached.ensures in
    look_answered c.args.seat.now c.state_for-reached.new.seat c.zone_movie.result.now c.args.look _ _ c.state_for-reached.result c.answer_reached.result (λ bytes. bytes.items) c.frames_for-from.ensures e.seat e.reply e.zone c.zone_movie.ensures
    c.answer_reached.ensures
