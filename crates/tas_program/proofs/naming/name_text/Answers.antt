use Rattle.std.proofs.Common.{sym}
use Rattle.tas_program.proofs.NamingLemmas.{named_error, named_as_it_is}
use Rattle.tas_program.proofs.naming.name_text.Goals as goal

pub returns-in-Some : goal.returns-in-Some
returns-in-Some g c = named_error c.args.role c.args.image.now c.args.text.now c.args.fault c.in-Some.error c.name_error.result (sym c.in-Some.ensures) c.name_error.ensures

pub returns-in-None : goal.returns-in-None
returns-in-None g c = named_as_it_is c.args.role c.args.image.now c.args.text.now c.args.fault (sym c.in-None.ensures)
