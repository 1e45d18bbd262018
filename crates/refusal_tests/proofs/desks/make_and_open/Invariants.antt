use Rattle.refusal_tests.proofs.desks.make_and_open.Given as goal

abbrev pub ghosts-open_at-N-Ledger : goal.ghosts-open_at-N-Ledger
ghosts-open_at-N-Ledger g a = record { name = a.unopened.ledger; parts = a.unopened.seats }

abbrev pub ghosts-open_at-N-Name : goal.ghosts-open_at-N-Name
ghosts-open_at-N-Name g a = record { registry = a.unopened.registry }
