use Rattle.tas_journaling_tests.proofs.shared_fault_tests.offer_one.Given as goal

abbrev pub ghosts-offer_on-N-Ledger : goal.ghosts-offer_on-N-Ledger
ghosts-offer_on-N-Ledger g a = record { name = a.unopened.ledger; parts = a.unopened.seats }

abbrev pub ghosts-offer_on-N-Name : goal.ghosts-offer_on-N-Name
ghosts-offer_on-N-Name g a = record { registry = a.unopened.registry }
