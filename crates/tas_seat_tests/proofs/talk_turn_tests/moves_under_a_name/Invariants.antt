use Rattle.tas_seat_tests.proofs.talk_turn_tests.moves_under_a_name.Given as goal

abbrev pub ghosts-moves_without-N-Ledger : goal.ghosts-moves_without-N-Ledger
ghosts-moves_without-N-Ledger g a = record { name = a.unopened.ledger; parts = a.unopened.seats }

abbrev pub ghosts-moves_without-N-Name : goal.ghosts-moves_without-N-Name
ghosts-moves_without-N-Name g a = record { registry = a.unopened.registry }
