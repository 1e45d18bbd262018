use Rattle.std.proofs.Common.{rules}
use Rattle.std.specs.Prelude.{nat_le}
use Rattle.std.proofs.lemmas.Fn.{filter_same}
use Rattle.tas_green.proofs.viewing.retain_up_to.Goals as goal

pub returns-clause-states : goal.returns-clause-states
returns-clause-states g c = filter_same _ (λ kept. nat_le kept.frame c.args.last) _ (λ x b f k. search rules) _ _ c.retain.ensures.filtered
