use Rattle.tas_journaling_tests.proofs.shared_fault_tests.refused_with.Given as goal

abbrev pub ghosts-refuse_shared-N-Ledger : goal.ghosts-refuse_shared-N-Ledger
ghosts-refuse_shared-N-Ledger g a = record { name = a.unopened.ledger; parts = a.unopened.seats }

abbrev pub ghosts-refuse_shared-N-Name : goal.ghosts-refuse_shared-N-Name
ghosts-refuse_shared-N-Name g a = record { registry = a.unopened.registry }

abbrev pub ghosts-refuse_shared-K-JournalName : goal.ghosts-refuse_shared-K-JournalName
ghosts-refuse_shared-K-JournalName g a = record { table = a.tally; head = a.journal.bytes; first = a.journal.first; own = λ number made. Unit {0} }
