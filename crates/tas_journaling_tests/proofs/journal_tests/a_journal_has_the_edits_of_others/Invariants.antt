use Rattle.tas_journaling_tests.proofs.journal_tests.a_journal_has_the_edits_of_others.Given as goal

abbrev pub ghosts-hold_beside-N-Ledger : goal.ghosts-hold_beside-N-Ledger
ghosts-hold_beside-N-Ledger g a = record { name = a.unopened.ledger; parts = a.unopened.seats }

abbrev pub ghosts-hold_beside-N-Name : goal.ghosts-hold_beside-N-Name
ghosts-hold_beside-N-Name g a = record { registry = a.unopened.registry }
