use Rattle.tas_journaling_tests.proofs.talks.hold.Given as goal

abbrev pub ghosts-hold_at-N-Ledger : goal.ghosts-hold_at-N-Ledger
ghosts-hold_at-N-Ledger g a = record { name = a.unopened.ledger; parts = a.unopened.seats }

abbrev pub ghosts-hold_at-N-Name : goal.ghosts-hold_at-N-Name
ghosts-hold_at-N-Name g a = record { registry = a.unopened.registry }
