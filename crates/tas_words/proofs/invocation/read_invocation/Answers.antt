use Rattle.std.proofs.Common.{map, string_bytes, subst}
use Rattle.tas_words.specs.CommandLine.{IsAsked}
use Rattle.tas_words.proofs.invocation.read_invocation.Goals as goal

pub returns-in-Some : goal.returns-in-Some
returns-in-Some g c = subst (λ output. IsAsked (map string_bytes c.args.words.now) c.in-Ok.order.task output) c.in-Some.is c.in-Ok.ensures

pub returns-in-None : goal.returns-in-None
returns-in-None g c = subst (λ output. IsAsked (map string_bytes c.args.words.now) c.in-Ok.order.task output) c.in-None.is c.in-Ok.ensures
