use Rattle.tas_tool.proofs.exporting.export_movie.Given as goal

abbrev pub ghosts-export_from_desk-N-Ledger : goal.ghosts-export_from_desk-N-Ledger
ghosts-export_from_desk-N-Ledger g a = record { name = a.unopened.ledger; parts = a.unopened.seats }

abbrev pub ghosts-export_from_desk-N-Name : goal.ghosts-export_from_desk-N-Name
ghosts-export_from_desk-N-Name g a = record { registry = a.unopened.registry }
