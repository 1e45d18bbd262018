use Rattle.tas_tool.specs.MovieScripts.{IsMovieScriptRun}
use Rattle.tas_program.proofs.ProgramLemmas.{over_two}
use Rattle.tas_program.proofs.running.run_script.Goals as goal

pub returns-in_ok-movie-in-Some : goal.returns-in_ok-movie-in-Some
returns-in_ok-movie-in-Some g c =
    rw c.in-Some.is
    (over_two IsMovieScriptRun (g.F.Folder.bytes_of c.args.folder.now c.in-Some.files.cart.now) (g.F.Folder.bytes_of c.args.folder.now c.in-Some.files.movie.now) (g.F.File.Read.remaining c.in_ok-cart-in-Some.cart) (g.F.File.Read.remaining c.movie_script_run.new.cart) (g.F.File.Read.remaining c.in_ok-movie-in-Some.movie) (g.F.File.Read.remaining c.movie_script_run.new.movie) (record { input = g.R.Read.remaining c.args.input.now; output = g.W.Write.contents c.args.output.now }) (record { input = g.R.Read.remaining c.movie_script_run.new.input; output = g.W.Write.contents c.movie_script_run.new.output }) c.movie_script_run.result c.in_ok-cart-in-Some.ensures.file c.in_ok-movie-in-Some.ensures.file c.movie_script_run.ensures)
