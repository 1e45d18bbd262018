use Rattle.tas_tool.proofs.movie_scripting.run_over.Given as goal

abbrev pub ghosts-answer_over-N-Ledger : goal.ghosts-answer_over-N-Ledger
ghosts-answer_over-N-Ledger g a = record { name = a.unopened.ledger; parts = a.unopened.seats }

abbrev pub ghosts-answer_over-N-Name : goal.ghosts-answer_over-N-Name
ghosts-answer_over-N-Name g a = record { registry = a.unopened.registry }
