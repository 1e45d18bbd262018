use Rattle.tas_program.proofs.recovering.run_recovery.Goals as goal

pub returns : goal.returns
returns g c = record { found = _; done = _; recovers = c.recovered_of-found.ensures; reported = c.report_of-done.ensures; reports = c.write_report.ensures }
