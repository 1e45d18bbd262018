use Rattle.tas_published.proofs.ReaderLemmas.{found_frame, found_none}
use Rattle.tas_published.proofs.movie_reader.MovieReader.copy.Goals as goal

pub returns-in-Ok : goal.returns-in-Ok
returns-in-Ok g c = found_frame c.args.self.now c.copy_of.new.self c.args.known.now c.args.k c.saturating_add.result c.in-Ok.found c.saturating_add.ensures c.in-Ok.ensures

pub returns-in-Err : goal.returns-in-Err
returns-in-Err g c = found_none c.args.self.now c.copy_of.new.self c.args.known.now c.args.k c.saturating_add.result c.in-Err.error c.from.result c.saturating_add.ensures c.from.ensures c.in-Err.ensures
