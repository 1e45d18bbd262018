use Rattle.tas_journaling_tests.proofs.shared_fault_tests.offer_on.Given as goal

abbrev pub ghosts-try_to_share : goal.ghosts-try_to_share
ghosts-try_to_share g a = record { table = a.tally; head = a.journal.bytes; first = a.journal.first; own = λ number made. Unit {0} }
