use Rattle.tas_tool.proofs.noted_desk_runs.noted_desk_on.Given as goal

abbrev pub ghosts-hold_noted_desk-N-Ledger : goal.ghosts-hold_noted_desk-N-Ledger
ghosts-hold_noted_desk-N-Ledger g a = record { name = a.unopened.ledger; parts = a.unopened.seats }

abbrev pub ghosts-hold_noted_desk-N-Name : goal.ghosts-hold_noted_desk-N-Name
ghosts-hold_noted_desk-N-Name g a = record { registry = a.unopened.registry }
