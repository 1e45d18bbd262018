use Rattle.std.proofs.Common.{◌∙◌}
use Rattle.std.proofs.lemmas.Result.{err_from_is_err_and}
use Rattle.tas_tool.specs.MovieScripts.{standing_of_movie}
use Rattle.tas_tool.proofs.ScriptLemmas.{answered_from}
use Rattle.tas_tool.proofs.MovieScriptLemmas.{holds_seen, holds_standing, unmade}
use Rattle.tas_tool.proofs.movie_scripting.answer_made.Goals as goal

pub answer_lines-requires-clause-seen : goal.answer_lines-requires-clause-seen
answer_lines-requires-clause-seen g c = holds_seen _ _ c.in_ok-put_movie.ensures.holds

pub returns-in_err-put_movie-clause-answers : goal.returns-in_err-put_movie-clause-answers
returns-in_err-put_movie-clause-answers g c = λ own.
    let p = err_from_is_err_and c.from_residual.result c.from_residual.ensures.1 in
    rw (p.1, p.2)
    (unmade g.row.A.Denot c.args.movie.now c.args.bytes.now c.args.text.now.items c.put_movie.new.seat c.in_err-put_movie.field-0.0 c.requires.empty c.in_err-put_movie.ensures.fault own.few)

pub returns-clause-answers : goal.returns-clause-answers
returns-clause-answers g c = λ own.
    let answers = c.answer_lines.ensures.answers own in
    answered_from (standing_of_movie c.args.movie.now) _ c.args.bytes.now c.answer_lines.new.text.items c.answer_lines.result (holds_standing _ _ c.in_ok-put_movie.ensures.holds answers.0) answers.1

pub returns-clause-number : goal.returns-clause-number
returns-clause-number g c = c.answer_lines.ensures.number ∙ c.put_movie.ensures.number
