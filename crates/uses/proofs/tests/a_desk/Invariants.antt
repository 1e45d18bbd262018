use Rattle.uses.proofs.tests.a_desk.Given as goal

abbrev pub ghosts-open-N-Ledger : goal.ghosts-open-N-Ledger
ghosts-open-N-Ledger g a = record { name = a.unopened.ledger; parts = a.unopened.seats }

abbrev pub ghosts-open-N-Name : goal.ghosts-open-N-Name
ghosts-open-N-Name g a = record { registry = a.unopened.registry }
