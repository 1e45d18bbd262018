use Rattle.tas_tool.proofs.noted_talks.noted_from.Given as goal

abbrev pub ghosts-noted_on-N-Ledger : goal.ghosts-noted_on-N-Ledger
ghosts-noted_on-N-Ledger g a = record { name = a.unopened.ledger; parts = a.unopened.seats }

abbrev pub ghosts-noted_on-N-Name : goal.ghosts-noted_on-N-Name
ghosts-noted_on-N-Name g a = record { registry = a.unopened.registry }
