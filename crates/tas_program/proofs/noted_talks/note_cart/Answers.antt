use Rattle.std.proofs.Common.{refl}
use Rattle.tas_program.specs.Noting.{from_cart}
use Rattle.tas_program.proofs.NotedLemmas.{not_made, noted_into}
use Rattle.tas_program.proofs.noted_talks.note_cart.Goals as goal

pub returns-in-Ok : goal.returns-in-Ok
returns-in-Ok g c =
    noted_into g.F.Folder.steps c.args.word.name.now (from_cart (g.F.File.Read.remaining c.args.cart)) c.close_journal.result.movie c.noted_cart_talk_run-talk.result.movie _ _ _ (record { input = g.R.Read.remaining c.args.input.now; output = g.W.Write.contents c.args.output.now }) (record { input = g.R.Read.remaining c.noted_cart_talk_run-talk.new.input; output = g.W.Write.contents c.noted_cart_talk_run-talk.new.output }) c.noted_cart_talk_run-talk.result.end c.close_journal.result.end
    c.in-Ok.ensures.made refl c.close_journal.ensures.end c.close_journal.ensures.movie _ c.requires.name ((_, c.noted_cart_talk_run-talk.ensures.talk), c.noted_cart_talk_run-talk.ensures.kept)

pub returns : goal.returns
returns g c = not_made g.F.Folder.steps c.args.word.name.now (from_cart (g.F.File.Read.remaining c.args.cart)) c.unheld.result.movie (record { input = g.R.Read.remaining c.args.input.now; output = g.W.Write.contents c.args.output.now }) c.unheld.result.end _ c.unheld.ensures.end c.in-Err.ensures.fault c.unheld.ensures.movie
