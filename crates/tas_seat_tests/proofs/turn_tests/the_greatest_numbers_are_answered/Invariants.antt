use Rattle.tas_seat_tests.proofs.turn_tests.the_greatest_numbers_are_answered.Given as goal

abbrev pub ghosts-check_numbers_at-N-Ledger : goal.ghosts-check_numbers_at-N-Ledger
ghosts-check_numbers_at-N-Ledger g a = record { name = a.unopened.ledger; parts = a.unopened.seats }

abbrev pub ghosts-check_numbers_at-N-Name : goal.ghosts-check_numbers_at-N-Name
ghosts-check_numbers_at-N-Name g a = record { registry = a.unopened.registry }
