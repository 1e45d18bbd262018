use Rattle.std.proofs.Common.{ap, map, ◌∙◌}
use Rattle.tas_search.specs.Logs.{log_bytes}
use Rattle.tas_program.specs.Files.{files_by}
use Rattle.tas_program.proofs.SearchLemmas.{not_searched, searched}
use Rattle.tas_program.proofs.searching.verdict_of.Goals as goal

pub returns-in-Ok : goal.returns-in-Ok
returns-in-Ok g c =
    searched (files_by (g.F.Folder.bytes_of c.args.folder.now) (g.F.Folder.held_by c.args.folder.now) (g.F.Folder.shown c.args.folder.now)) c.args.words _ (map g.F.File.Read.remaining c.search_over.new.files) (record { input = g.R.Read.remaining c.args.input.now; output = g.W.Write.contents c.args.output.now })
    (record { input = g.R.Read.remaining c.search_over.new.input; output = g.W.Write.contents c.search_over.new.output }) (log_bytes (g.E.Write.contents c.args.errors.now) (g.P.Write.contents c.args.report.now)) (log_bytes (g.E.Write.contents c.search_over.new.errors) (g.P.Write.contents c.search_over.new.report)) _ (ap (map g.F.File.Read.remaining) c.as_mut_slice.ensures.value ∙ c.in-Ok.ensures.files) c.search_over.ensures

pub returns-in-Err : goal.returns-in-Err
returns-in-Err g c = not_searched (files_by (g.F.Folder.bytes_of c.args.folder.now) (g.F.Folder.held_by c.args.folder.now) (g.F.Folder.shown c.args.folder.now)) c.args.words (record { input = g.R.Read.remaining c.args.input.now; output = g.W.Write.contents c.args.output.now }) (log_bytes (g.E.Write.contents c.args.errors.now) (g.P.Write.contents c.args.report.now)) c.in-Err.fault c.in-Err.ensures.fault
