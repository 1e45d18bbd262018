use Rattle.std.proofs.Common.{rules}
use Rattle.vcs_tia.proofs.chip.Tia.are_blank.Goals as goal

pub returns-clause-blank : goal.returns-clause-blank
returns-clause-blank c = search rules
