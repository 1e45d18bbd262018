use Rattle.std.proofs.Common.{sym, ◌∙◌}
use Rattle.tas_journal.proofs.ReadingLemmas.{loads_found, deletes_found, no_load, no_deletion}
use Rattle.tas_journal.proofs.entries.read_other.Goals as goal

pub returns-in-Some-clause-load : goal.returns-in-Some-clause-load
returns-in-Some-clause-load g c = loads_found g.row.A.Denot c.edit_of.result c.args.text.now c.in-Some.command c.in-Some.ensures.some c.edit_of.ensures

pub returns-in-Some-clause-delete : goal.returns-in-Some-clause-delete
returns-in-Some-clause-delete g c = deletes_found g.row.A.Denot c.edit_of.result c.args.text.now c.in-Some.command c.in-Some.ensures.some c.edit_of.ensures

pub returns-in-None-clause-load : goal.returns-in-None-clause-load
returns-in-None-clause-load g c = λ cart cartridge is. absurd (no_load c.args.text.now cart c.in-None.ensures.none cartridge is)

pub returns-in-None-clause-delete : goal.returns-in-None-clause-delete
returns-in-None-clause-delete g c = λ at count small few is. absurd (no_deletion c.args.text.now at count c.in-None.ensures.none small few is)
