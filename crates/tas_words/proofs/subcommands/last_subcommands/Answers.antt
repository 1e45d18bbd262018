use Rattle.std.proofs.Common.{refl}
use Rattle.tas_words.proofs.subcommands.last_subcommands.Goals as goal

pub returns-clause-line : goal.returns-clause-line
returns-clause-line c = refl

pub returns-clause-guides : goal.returns-clause-guides
returns-clause-guides c = refl
