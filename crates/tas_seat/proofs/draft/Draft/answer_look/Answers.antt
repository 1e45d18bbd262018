use Rattle.std.proofs.Common.{◌+◌}
use Rattle.tas_seat.proofs.DraftLemmas.{look_answered, movie_in}
use Rattle.tas_seat.proofs.ReachLemmas.{can_reached}
use Rattle.tas_seat.proofs.draft.Draft.answer_look.Goals as goal

pub answer_reached-requires : goal.answer_reached-requires
answer_reached-requires g c =
    let before = c.args.self.now in
    let now = c.state_for-reached.new.self in
    can_reached before.movie c.movie.result.now (before.at + before.made) c.args.look _ _ _ _ _ c.state_for-reached.result c.frames_for-from.ensures c.state_for-reached.ensures
    (movie_in before now c.movie.result.now _ _ c.state_for-reached.result c.movie.ensures.movie c.state_for-reached.ensures)

pub returns : goal.returns
returns g c =
    look_answered c.args.self.now c.state_for-reached.new.self c.movie.result.now c.args.look _ _ c.state_for-reached.result c.answer_reached.result (λ bytes. bytes.items) c.frames_for-from.ensures c.state_for-reached.ensures c.movie.ensures.movie
    c.answer_reached.ensures
