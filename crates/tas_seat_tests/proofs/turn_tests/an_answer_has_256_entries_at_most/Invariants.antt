use Rattle.tas_seat_tests.proofs.turn_tests.an_answer_has_256_entries_at_most.Given as goal

abbrev pub ghosts-check_entries_at-N-Ledger : goal.ghosts-check_entries_at-N-Ledger
ghosts-check_entries_at-N-Ledger g a = record { name = a.unopened.ledger; parts = a.unopened.seats }

abbrev pub ghosts-check_entries_at-N-Name : goal.ghosts-check_entries_at-N-Name
ghosts-check_entries_at-N-Name g a = record { registry = a.unopened.registry }
