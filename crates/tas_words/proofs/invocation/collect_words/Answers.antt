use Rattle.std.proofs.Common.{ap, map, sym, string_bytes}
use Rattle.tas_words.proofs.invocation.collect_words.Goals as goal

pub returns-in-Ok-collect-clause-words : goal.returns-in-Ok-collect-clause-words
returns-in-Ok-collect-clause-words g c =
    let (run, from, whole, items) = c.in-Ok-collect.ensures.runs tt in
    rw c.in-Ok.is (run, from, whole, ap (map string_bytes) (sym items.0))
