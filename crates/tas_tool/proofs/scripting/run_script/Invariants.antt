use Rattle.tas_tool.proofs.scripting.run_script.Given as goal

abbrev pub ghosts-answer_script-N-Ledger : goal.ghosts-answer_script-N-Ledger
ghosts-answer_script-N-Ledger g a = record { name = a.unopened.ledger; parts = a.unopened.seats }

abbrev pub ghosts-answer_script-N-Name : goal.ghosts-answer_script-N-Name
ghosts-answer_script-N-Name g a = record { registry = a.unopened.registry }
