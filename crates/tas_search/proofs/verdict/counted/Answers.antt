use Rattle.std.proofs.Common.{rules}
use Rattle.tas_search.proofs.verdict.counted.Goals as goal

pub returns : goal.returns
returns g c = (c.in_ok-number.number.items, c.in_ok-number.ensures, search rules)
