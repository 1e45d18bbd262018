use Rattle.vcs_machine.specs.Inside.Noting.{watching}
use Rattle.vcs_machine.proofs.lag.run_unread.Given as goal

abbrev pub ghost-run_until_over : goal.ghost-run_until_over
ghost-run_until_over g a = watching g.O.Observer.observe
