use Rattle.std.proofs.Common.{refl}
use Rattle.std.proofs.lemmas.Result.{err_from_is_err_and}
use Rattle.tas_tool.proofs.desk_runs.write_movie.Goals as goal

pub returns-in_err-write_text : goal.returns-in_err-write_text
returns-in_err-write_text g c =
    let p = err_from_is_err_and c.from_residual.result c.from_residual.ensures.1 in
    rw (p.1, p.2) (record { written = c.in_err-write_text.field-0.0.written; is_write = refl; cut = c.in_err-write_text.ensures.cut })

pub returns : goal.returns
returns g c = c.in_ok-write_text.ensures.all
