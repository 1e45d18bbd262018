use Rattle.std.proofs.Common.{refl}
use Rattle.tas_program.specs.Noting.{from_blank}
use Rattle.tas_program.proofs.NotedLemmas.{not_made, noted_into}
use Rattle.tas_program.proofs.noted_talks.note_blank.Goals as goal

pub returns-in-Ok : goal.returns-in-Ok
returns-in-Ok g c =
    noted_into g.F.Folder.steps c.args.word.name.now from_blank c.close_journal.result.movie c.noted_talk_run-talk.result.movie _ _ _ (record { input = g.R.Read.remaining c.args.input.now; output = g.W.Write.contents c.args.output.now }) (record { input = g.R.Read.remaining c.noted_talk_run-talk.new.input; output = g.W.Write.contents c.noted_talk_run-talk.new.output }) c.noted_talk_run-talk.result.end c.close_journal.result.end
    c.in-Ok.ensures.made refl c.close_journal.ensures.end c.close_journal.ensures.movie _ c.requires.name (c.noted_talk_run-talk.ensures.talk, c.noted_talk_run-talk.ensures.kept)

pub returns-in-Err : goal.returns-in-Err
returns-in-Err g c = not_made g.F.Folder.steps c.args.word.name.now from_blank c.unheld.result.movie (record { input = g.R.Read.remaining c.args.input.now; output = g.W.Write.contents c.args.output.now }) c.unheld.result.end _ c.unheld.ensures.end c.in-Err.ensures.fault c.unheld.ensures.movie
