use Rattle.tas_tool.proofs.talk_runs.talk_from.Given as goal

abbrev pub ghosts-talk_on-N-Ledger : goal.ghosts-talk_on-N-Ledger
ghosts-talk_on-N-Ledger g a = record { name = a.unopened.ledger; parts = a.unopened.seats }

abbrev pub ghosts-talk_on-N-Name : goal.ghosts-talk_on-N-Name
ghosts-talk_on-N-Name g a = record { registry = a.unopened.registry }
