use Rattle.tas_program.specs.Files.{files_by}
use Rattle.tas_program.proofs.SearchLemmas.{runs_alone}
use Rattle.tas_program.proofs.searching.run_search.Goals as goal

pub returns-in-None : goal.returns-in-None
returns-in-None g c =
    runs_alone g.F.Folder.steps (files_by (g.F.Folder.bytes_of c.args.folder.now) (g.F.Folder.held_by c.args.folder.now) (g.F.Folder.shown c.args.folder.now)) c.args.words _ _ _ _ _ _ _ c.in-None.is c.search_with.ensures
