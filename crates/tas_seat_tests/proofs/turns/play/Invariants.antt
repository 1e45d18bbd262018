use Rattle.tas_seat_tests.proofs.turns.play.Given as goal

abbrev pub ghosts-play_at-N-Ledger : goal.ghosts-play_at-N-Ledger
ghosts-play_at-N-Ledger g a = record { name = a.unopened.ledger; parts = a.unopened.seats }

abbrev pub ghosts-play_at-N-Name : goal.ghosts-play_at-N-Name
ghosts-play_at-N-Name g a = record { registry = a.unopened.registry }
