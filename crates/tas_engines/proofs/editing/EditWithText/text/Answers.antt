use Rattle.std.proofs.Common.{sym}
use Rattle.tas_engines.proofs.editing.EditWithText.text.Goals as goal

pub returns-clause-fault : goal.returns-clause-fault
returns-clause-fault g c = rw (sym c.bytes_of.ensures, sym c.bytes_of-2.ensures, sym c.bytes_of-3.ensures, sym c.bytes_of-4.ensures) c.edited_text_with.ensures.fault
