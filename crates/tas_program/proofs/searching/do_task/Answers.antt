use Rattle.std.proofs.Common.{sym}
use Rattle.tas_program.specs.Files.{files_by}
use Rattle.tas_program.proofs.SearchLemmas.{ends_desk, ends_other, ends_reported, ends_talk}
use Rattle.tas_program.proofs.searching.do_task.Goals as goal

pub returns-in-Some : goal.returns-in-Some
returns-in-Some g c =
    ends_reported g.F.Folder.steps (files_by (g.F.Folder.bytes_of c.args.folder.now) (g.F.Folder.held_by c.args.folder.now) (g.F.Folder.shown c.args.folder.now)) c.args.task c.in-Some.words (g.E.Write.contents c.args.errors.now) (g.E.Write.contents c.run_reported.new.errors) (record { input = g.R.Read.remaining c.args.input.now; output = g.W.Write.contents c.args.output.now })
    (record { input = g.R.Read.remaining c.run_reported.new.input; output = g.W.Write.contents c.run_reported.new.output }) c.run_reported.result (sym c.in-Some.ensures) c.run_reported.ensures

pub returns-in-Some-talk_of : goal.returns-in-Some-talk_of
returns-in-Some-talk_of g c =
    ends_talk g.F.Folder.steps (files_by (g.F.Folder.bytes_of c.args.folder.now) (g.F.Folder.held_by c.args.folder.now) (g.F.Folder.shown c.args.folder.now)) c.args.task c.in-Some-talk_of.words c.hold_words.result.movie (record { input = g.R.Read.remaining c.args.input.now; output = g.W.Write.contents c.args.output.now })
    (record { input = g.R.Read.remaining c.hold_words.new.input; output = g.W.Write.contents c.hold_words.new.output }) c.hold_words.result.end (sym c.in-None.ensures) (sym c.in-Some-talk_of.ensures) c.hold_words.ensures

pub returns-in-Some-desk_of : goal.returns-in-Some-desk_of
returns-in-Some-desk_of g c =
    ends_desk g.F.Folder.steps (files_by (g.F.Folder.bytes_of c.args.folder.now) (g.F.Folder.held_by c.args.folder.now) (g.F.Folder.shown c.args.folder.now)) c.args.task c.in-Some-desk_of.words (record { input = g.R.Read.remaining c.args.input.now; output = g.W.Write.contents c.args.output.now })
    (record { input = g.R.Read.remaining c.args.input.now; output = g.W.Write.contents c.hold_desk.new.output }) c.hold_desk.result (sym c.in-None.ensures) (sym c.in-None-talk_of.ensures) (sym c.in-Some-desk_of.ensures) (c.hold_desk.ensures (g.R.Read.remaining c.args.input.now))

pub returns-in-None-desk_of : goal.returns-in-None-desk_of
returns-in-None-desk_of g c =
    ends_other g.F.Folder.steps (files_by (g.F.Folder.bytes_of c.args.folder.now) (g.F.Folder.held_by c.args.folder.now) (g.F.Folder.shown c.args.folder.now)) c.args.task (record { input = g.R.Read.remaining c.args.input.now; output = g.W.Write.contents c.args.output.now })
    (record { input = g.R.Read.remaining c.run_engine.new.input; output = g.W.Write.contents c.run_engine.new.output }) c.run_engine.result (sym c.in-None.ensures) (sym c.in-None-talk_of.ensures) (sym c.in-None-desk_of.ensures) c.run_engine.ensures
