use Rattle.vcs_cpu.proofs.running.run_until_over.Given as goal

abbrev pub ghost-run_by_value : goal.ghost-run_by_value
ghost-run_by_value g a = g.settling
