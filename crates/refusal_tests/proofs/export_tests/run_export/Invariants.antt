use Rattle.refusal_tests.proofs.export_tests.run_export.Given as goal

abbrev pub ghosts-export_at-N-Ledger : goal.ghosts-export_at-N-Ledger
ghosts-export_at-N-Ledger g a = record { name = a.unopened.ledger; parts = a.unopened.seats }

abbrev pub ghosts-export_at-N-Name : goal.ghosts-export_at-N-Name
ghosts-export_at-N-Name g a = record { registry = a.unopened.registry }
