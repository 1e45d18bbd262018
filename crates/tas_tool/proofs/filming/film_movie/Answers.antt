use Rattle.std.proofs.Common.{inl, refl}
use Rattle.std.proofs.lemmas.Result.{err_from_is_err_and}
use Rattle.tas_tool.proofs.FilmLemmas.{movie_films}
use Rattle.tas_tool.proofs.filming.film_movie.Goals as goal

pub returns-in_err-movie : goal.returns-in_err-movie
returns-in_err-movie g c =
    let p = err_from_is_err_and c.from_residual.result c.from_residual.ensures.1 in
    rw (p.1, p.2) (inl (c.in_err-movie.ensures, refl))

pub returns : goal.returns
returns g c = movie_films c.args.from c.args.to c.args.image.now c.args.bytes.now c.in_ok-movie.movie _ _ _ c.in_ok-movie.ensures
    (rw (c.unwrap_or-from.ensures, c.unwrap_or-to.ensures, c.len.ensures.len) at c.film_frames.ensures)
