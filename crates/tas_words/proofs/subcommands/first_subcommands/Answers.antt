use Rattle.std.proofs.Common.{refl}
use Rattle.tas_words.proofs.subcommands.first_subcommands.Goals as goal

pub returns-clause-line : goal.returns-clause-line
returns-clause-line c = refl

pub returns-clause-guides : goal.returns-clause-guides
returns-clause-guides c = refl

pub returns-clause-usages : goal.returns-clause-usages
returns-clause-usages c = refl
