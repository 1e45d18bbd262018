use Rattle.tas_verify.proofs.OneReport.{same_lines, same_report, same_fault}
use Rattle.tas_verify.proofs.laws.one_report_per_manifest.Goals as goal

pub returns : goal.returns
returns g c =
    let facts = g.S.Shelf.facts c.args.shelf.now in
    record { lines = same_lines facts; report = same_report facts; fault = same_fault facts }
