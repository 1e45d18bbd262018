use Rattle.std.proofs.Common.{[], ◌∷◌}
use Rattle.tas_tool.specs.Talk.{IsCartTalkLeaving}
use Rattle.tas_program.specs.Program.{OverOne}
use Rattle.tas_program.proofs.TalkLemmas.{talk_over_one, talk_unopened}
use Rattle.tas_program.proofs.saved_talks.hold_over_cart.Goals as goal

pub returns-in-Ok : goal.returns-in-Ok
returns-in-Ok g c =
    talk_over_one c.cart_talk_run.result.movie (g.F.Folder.bytes_of c.args.folder.now c.args.cart.now) (g.F.File.Read.remaining c.in-Ok.file) (g.F.File.Read.remaining c.cart_talk_run.new.cart) (record { input = g.R.Read.remaining c.args.input.now; output = g.W.Write.contents c.args.output.now }) (record { input = g.R.Read.remaining c.cart_talk_run.new.input; output = g.W.Write.contents c.cart_talk_run.new.output }) c.cart_talk_run.result.end c.in-Ok.ensures.file c.cart_talk_run.ensures

pub returns-in-Err : goal.returns-in-Err
returns-in-Err g c =
    talk_unopened (g.F.Folder.bytes_of c.args.folder.now c.args.cart.now ∷ []) (OverOne (IsCartTalkLeaving c.unopened.result.movie)) c.unopened.result.movie _ c.unopened.result.end _ c.unopened.ensures.end c.in-Err.ensures.fault c.unopened.ensures.movie
