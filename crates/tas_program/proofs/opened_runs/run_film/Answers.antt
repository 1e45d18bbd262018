use Rattle.tas_tool.specs.Films.{IsFilmRun}
use Rattle.tas_program.proofs.ProgramLemmas.{over_one}
use Rattle.tas_program.proofs.opened_runs.run_film.Goals as goal

pub returns : goal.returns
returns g c =
    over_one (IsFilmRun c.args.from c.args.to) (g.F.Folder.bytes_of c.args.folder.now c.args.cart.now) (g.F.File.Read.remaining c.in_ok-cart.cart) (g.F.File.Read.remaining c.film_run.new.cart) (record { input = g.R.Read.remaining c.args.input.now; output = g.W.Write.contents c.args.output.now })
    (record { input = g.R.Read.remaining c.film_run.new.input; output = g.W.Write.contents c.film_run.new.output }) c.film_run.result c.in_ok-cart.ensures.file c.film_run.ensures
