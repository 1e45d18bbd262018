use Rattle.tas_language.specs.declared.command.Command.TheVariants.{Edit}
use Rattle.tas_language.proofs.change.read_change.Goals as goal

pub returns-in_err-command-clause-none : goal.returns-in_err-command-clause-none
returns-in_err-command-clause-none c = rw c.from_residual.ensures (λ change. c.in_err-command.ensures.none (Edit change))
