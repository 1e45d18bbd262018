use Rattle.std.proofs.Common.{rules}
use Rattle.tas_movie.proofs.printing.print_frame.Goals as goal

pub returns : goal.returns
returns c = search rules
