use Rattle.tas_journaling_tests.proofs.shared_tests.shared.Given as goal

abbrev pub ghosts-share-N-Ledger : goal.ghosts-share-N-Ledger
ghosts-share-N-Ledger g a = record { name = a.unopened.ledger; parts = a.unopened.seats }

abbrev pub ghosts-share-N-Name : goal.ghosts-share-N-Name
ghosts-share-N-Name g a = record { registry = a.unopened.registry }

abbrev pub ghosts-share-K-JournalName : goal.ghosts-share-K-JournalName
ghosts-share-K-JournalName g a = record { table = a.tally; head = a.journal.bytes; first = a.journal.first; own = λ number made. Unit {0} }
