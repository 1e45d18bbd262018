use Rattle.std.proofs.Common.{inl}
use Rattle.std.proofs.lemmas.Result.{err_from_is_err_and}
use Rattle.std.proofs.KnownBytes.{Keeps-refl}
use Rattle.tas_tool.proofs.ExportLemmas.{movie_ends}
use Rattle.tas_tool.proofs.exporting.export_movie.Goals as goal

pub returns : goal.returns
returns g c = movie_ends c.args.frames.from c.args.frames.to c.args.image.now c.args.bytes.now c.in_ok-movie.movie _ _ _ c.in_ok-movie.ensures c.export_from_desk.ensures

pub returns-in_err-movie : goal.returns-in_err-movie
returns-in_err-movie g c =
    let p = err_from_is_err_and c.from_residual.result c.from_residual.ensures.1 in
    rw (p.1, p.2) (inl (inl c.in_err-movie.ensures, Keeps-refl _))
