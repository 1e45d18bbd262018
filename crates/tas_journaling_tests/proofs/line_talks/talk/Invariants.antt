use Rattle.tas_journaling_tests.proofs.line_talks.talk.Given as goal

abbrev pub ghosts-talk_at-N-Ledger : goal.ghosts-talk_at-N-Ledger
ghosts-talk_at-N-Ledger g a = record { name = a.unopened.ledger; parts = a.unopened.seats }

abbrev pub ghosts-talk_at-N-Name : goal.ghosts-talk_at-N-Name
ghosts-talk_at-N-Name g a = record { registry = a.unopened.registry }
