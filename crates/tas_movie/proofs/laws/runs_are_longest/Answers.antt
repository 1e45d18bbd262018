use Rattle.tas_movie.proofs.RunLemmas.{runs_made, runs_longest, runs_only}
use Rattle.tas_movie.proofs.laws.runs_are_longest.Goals as goal

pub returns : goal.returns
returns c = record { made = runs_made; longest = runs_longest; only = runs_only }
