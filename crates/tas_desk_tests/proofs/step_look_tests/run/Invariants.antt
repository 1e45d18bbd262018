use Rattle.tas_desk_tests.proofs.step_look_tests.run.Given as goal

abbrev pub ghosts-run_at-N-Ledger : goal.ghosts-run_at-N-Ledger
ghosts-run_at-N-Ledger g a = record { name = a.unopened.ledger; parts = a.unopened.seats }

abbrev pub ghosts-run_at-N-Name : goal.ghosts-run_at-N-Name
ghosts-run_at-N-Name g a = record { registry = a.unopened.registry }
