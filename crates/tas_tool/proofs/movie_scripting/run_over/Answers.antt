use Rattle.std.proofs.KnownBytes.{Keeps-refl}
use Rattle.std.proofs.Common.{inr, inl}
use Rattle.std.proofs.lemmas.Result.{err_from_is_err_and}
use Rattle.tas_tool.specs.MovieScripts.{AnswersOver}
use Rattle.tas_tool.proofs.ScriptLemmas.{broken_off}
use Rattle.tas_tool.proofs.MovieScriptLemmas.{unopened_over, written_over}
use Rattle.tas_tool.proofs.movie_scripting.run_over.Goals as goal

pub returns-in_err-write_all : goal.returns-in_err-write_all
returns-in_err-write_all g c =
    let p = err_from_is_err_and c.from_residual-in_err-write_all.result c.from_residual-in_err-write_all.ensures.1 in
    rw (p.1, p.2)
    (inr (
      c.in_ok-movie.movie,
      c.in_ok-movie.ensures,
      broken_off (AnswersOver c.in_ok-movie.movie c.args.bytes.now) c.answer_over-end.new.text.items c.as_slice.result.now _ _ c.answer_over-end.result c.in_err-write_all.field-0.0 c.answer_over-end.ensures c.as_slice.ensures.value
          c.in_err-write_all.ensures.fault,
    ))

pub returns-in_default : goal.returns-in_default
returns-in_default g c = unopened_over c.args.image.now c.args.said.now c.args.bytes.now c.in_ok-movie.movie _ c.in_ok-movie.ensures

pub returns : goal.returns
returns g c =
    written_over c.args.image.now c.args.said.now c.args.bytes.now c.in_ok-movie.movie c.answer_over-end.new.text.items c.as_slice.result.now _ _ c.answer_over-end.result c.in_ok-movie.ensures c.answer_over-end.ensures c.as_slice.ensures.value
    c.in_ok-write_all.ensures.ok

pub returns-in_err-movie : goal.returns-in_err-movie
returns-in_err-movie g c =
    let p = err_from_is_err_and c.from_residual.result c.from_residual.ensures.1 in
    rw (p.1, p.2) (inl (c.in_err-movie.ensures, Keeps-refl _))
