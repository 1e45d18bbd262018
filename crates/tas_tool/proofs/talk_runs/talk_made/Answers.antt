use Rattle.std.proofs.Common.{sym, ap, ◌∙◌, arith}
use Rattle.std.proofs.lemmas.Result.{err_from_is_err_and}
use Rattle.tas_seat.proofs.HistoryLemmas.{talk_number}
use Rattle.tas_tool.specs.Talk.{talk_state_from}
use Rattle.tas_tool.proofs.AloneLemmas.{own_talk}
use Rattle.tas_tool.proofs.MovieScriptLemmas.{holds_seen}
use Rattle.tas_tool.proofs.TalkRunLemmas.{first_state, made_state, unmade_talk, talk_as}
use Rattle.tas_tool.proofs.talk_runs.talk_made.Goals as goal

pub returns-in_default-clause-number : goal.returns-in_default-clause-number
returns-in_default-clause-number g c = talk_number c.args.seat.now c.converse.new.seat _ _ _ _ c.converse.result c.converse.ensures ∙ c.requires.first.0

pub returns-in_default-clause-talk : goal.returns-in_default-clause-talk
returns-in_default-clause-talk g c = λ own.
    let talk = own_talk c.args.seat.now c.converse.new.seat _ _ _ _ c.converse.result c.converse.ensures (omega (arith, c.requires.first.1)) own in
    (talk.2, talk_as _ _ _ _ _ _ _ c.converse.result (first_state c.args.seat.now c.requires.first.2 c.requires.zone.0 c.requires.zone.1 ∙ ap talk_state_from (sym c.in_default.is)) talk.0)

pub returns-in_err-put_movie-clause-talk : goal.returns-in_err-put_movie-clause-talk
returns-in_err-put_movie-clause-talk g c = λ own.
    let p = err_from_is_err_and c.from_residual.result c.from_residual.ensures.1 in
    rw (p.1, p.2)
    (unmade_talk (talk_state_from c.args.movie) c.put_movie.new.seat c.in_err-put_movie.field-0.0 _ _ c.in_err-put_movie.ensures.fault own)

pub returns-clause-number : goal.returns-clause-number
returns-clause-number g c = talk_number c.put_movie.new.seat c.converse-2.new.seat _ _ _ _ c.converse-2.result c.converse-2.ensures ∙ c.put_movie.ensures.number

pub returns-clause-talk : goal.returns-clause-talk
returns-clause-talk g c = λ own.
    let holds = c.in_ok-put_movie.ensures.holds in
    let talk = own_talk c.put_movie.new.seat c.converse-2.new.seat _ _ _ _ c.converse-2.result c.converse-2.ensures (holds_seen _ _ holds) own in
    (talk.2, talk_as _ _ _ _ _ _ _ c.converse-2.result (made_state c.args.seat.now _ _ holds talk.1 c.put_movie.ensures.zone c.requires.zone.0 c.requires.zone.1 ∙ ap talk_state_from (sym c.in-Some.is)) talk.0)
