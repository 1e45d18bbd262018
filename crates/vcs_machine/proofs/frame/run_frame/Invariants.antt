use Rattle.vcs_machine.specs.Frame.{console_settling}
use Rattle.vcs_machine.proofs.frame.run_frame.Given as goal

abbrev pub ghost-run_until_over : goal.ghost-run_until_over
ghost-run_until_over g a = console_settling g.O.Observer.observe
