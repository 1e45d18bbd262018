use Rattle.tas_seat_tests.proofs.part_tests.an_answer_has_both_edits_of_a_commit.Given as goal

abbrev pub ghosts-check_answers_at-N-Ledger : goal.ghosts-check_answers_at-N-Ledger
ghosts-check_answers_at-N-Ledger g a = record { name = a.unopened.ledger; parts = a.unopened.seats }

abbrev pub ghosts-check_answers_at-N-Name : goal.ghosts-check_answers_at-N-Name
ghosts-check_answers_at-N-Name g a = record { registry = a.unopened.registry }
