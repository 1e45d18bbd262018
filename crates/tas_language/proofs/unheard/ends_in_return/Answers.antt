use Rattle.std.proofs.Common.{ap}
use Rattle.tas_language.specs.Unheard.{is_return}
use Rattle.tas_language.proofs.unheard.ends_in_return.Goals as goal

pub returns-in-Some : goal.returns-in-Some
returns-in-Some c = ap is_return c.in-Some.ensures.value

pub returns-in-None : goal.returns-in-None
returns-in-None c = ap is_return c.in-None.ensures.value
