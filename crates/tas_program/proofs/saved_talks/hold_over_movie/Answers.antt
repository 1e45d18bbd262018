use Rattle.std.proofs.Common.{[], ◌∷◌}
use Rattle.tas_tool.specs.Talk.{IsMovieTalkLeaving}
use Rattle.tas_program.specs.Program.{OverTwo}
use Rattle.tas_program.proofs.TalkLemmas.{talk_over_two, talk_unopened}
use Rattle.tas_program.proofs.saved_talks.hold_over_movie.Goals as goal

pub returns-in-Ok : goal.returns-in-Ok
returns-in-Ok g c =
    talk_over_two c.movie_talk_run.result.movie (g.F.Folder.bytes_of c.args.folder.now c.args.cart.now) (g.F.Folder.bytes_of c.args.folder.now c.args.movie.now) (g.F.File.Read.remaining c.in-Ok.first) (g.F.File.Read.remaining c.movie_talk_run.new.cart) (g.F.File.Read.remaining c.in-Ok.second) (g.F.File.Read.remaining c.movie_talk_run.new.movie) (record { input = g.R.Read.remaining c.args.input.now; output = g.W.Write.contents c.args.output.now }) (record { input = g.R.Read.remaining c.movie_talk_run.new.input; output = g.W.Write.contents c.movie_talk_run.new.output }) c.movie_talk_run.result.end c.in-Ok.ensures.cart c.in-Ok.ensures.movie c.movie_talk_run.ensures

pub returns-in-Err : goal.returns-in-Err
returns-in-Err g c =
    talk_unopened (g.F.Folder.bytes_of c.args.folder.now c.args.cart.now ∷ g.F.Folder.bytes_of c.args.folder.now c.args.movie.now ∷ []) (OverTwo (IsMovieTalkLeaving c.unopened.result.movie)) c.unopened.result.movie _ c.unopened.result.end _ c.unopened.ensures.end c.in-Err.ensures.fault c.unopened.ensures.movie
