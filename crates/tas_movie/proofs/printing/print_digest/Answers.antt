use Rattle.std.proofs.Common.{rules}
use Rattle.tas_movie.specs.Text.{digest_text}
use Rattle.tas_movie.proofs.printing.print_digest.Goals as goal

pub returns : goal.returns
unfolding digest_text
returns g c = search rules
