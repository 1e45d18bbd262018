use Rattle.std.proofs.Common.{ap, ◌∙◌, refl, Ok, Err}
use Rattle.std.proofs.lemmas.Result.{err_from_is_err_and}
use Rattle.tas_tool.proofs.FilmLemmas.{film_ran}
use Rattle.tas_tool.proofs.filming.film_run.Goals as goal

pub returns-in_err-film_movie : goal.returns-in_err-film_movie
returns-in_err-film_movie g c =
    let told = err_from_is_err_and c.from_residual-in_err-film_movie.result c.from_residual-in_err-film_movie.ensures.1 in
    film_ran c.args.from c.args.to _ _ _ _ _ _ _ c.as_slice.result.now _ c.as_slice-2.result.now (Err c.in_err-film_movie.field-0.0) _ c.in_ok-image.ensures.first c.as_slice.ensures.value c.in_ok-image.ensures.second c.as_slice-2.ensures.value
    c.in_err-film_movie.ensures (told.1 ∙ ap Err told.2)

pub returns : goal.returns
returns g c =
    film_ran c.args.from c.args.to _ _ _ _ _ _ _ c.as_slice.result.now _ c.as_slice-2.result.now (Ok tt) _ c.in_ok-image.ensures.first c.as_slice.ensures.value c.in_ok-image.ensures.second c.as_slice-2.ensures.value
    c.in_ok-film_movie.ensures refl
