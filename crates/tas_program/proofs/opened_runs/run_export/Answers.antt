use Rattle.tas_engines.specs.Movies.{IsMovieRun}
use Rattle.tas_tool.specs.Pixmaps.{IsExportAnswer}
use Rattle.tas_program.proofs.ProgramLemmas.{over_one}
use Rattle.tas_program.proofs.opened_runs.run_export.Goals as goal

pub returns : goal.returns
returns g c =
    over_one (IsMovieRun (IsExportAnswer c.args.from c.args.to)) (g.F.Folder.bytes_of c.args.folder.now c.args.cart.now) (g.F.File.Read.remaining c.in_ok-cart.cart) (g.F.File.Read.remaining c.export_run.new.cart) (record { input = g.R.Read.remaining c.args.input.now; output = g.W.Write.contents c.args.output.now })
    (record { input = g.R.Read.remaining c.export_run.new.input; output = g.W.Write.contents c.export_run.new.output }) c.export_run.result c.in_ok-cart.ensures.file c.export_run.ensures
