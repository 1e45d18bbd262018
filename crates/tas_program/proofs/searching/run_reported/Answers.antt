use Rattle.tas_program.proofs.searching.run_reported.Goals as goal

pub returns-in-Search : goal.returns-in-Search
returns-in-Search g c = rw c.in-Search.is c.run_search.ensures

pub returns-in-Verification : goal.returns-in-Verification
returns-in-Verification g c = rw c.in-Verification.is c.run_verify.ensures

pub returns-in-Recovery : goal.returns-in-Recovery
returns-in-Recovery g c = rw c.in-Recovery.is c.run_recovery.ensures
