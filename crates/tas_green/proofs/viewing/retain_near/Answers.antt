use Rattle.std.proofs.Common.{rules}
use Rattle.std.proofs.lemmas.Fn.{filter_same}
use Rattle.tas_green.specs.Window.{is_near}
use Rattle.tas_green.proofs.viewing.retain_near.Goals as goal

pub returns-clause-states : goal.returns-clause-states
returns-clause-states g c = filter_same _ (λ kept. is_near c.args.end kept.frame) _ (λ x b f k. search rules) _ _ c.retain.ensures.filtered
