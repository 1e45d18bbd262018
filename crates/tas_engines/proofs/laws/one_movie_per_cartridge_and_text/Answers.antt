use Rattle.tas_engines.proofs.ReadMovies.{one_movie_read, only_memory}
use Rattle.tas_engines.proofs.laws.one_movie_per_cartridge_and_text.Goals as goal

pub returns : goal.returns
returns c = record { movie = one_movie_read; fault = only_memory }
