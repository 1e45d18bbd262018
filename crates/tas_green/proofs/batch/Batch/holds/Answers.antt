use Rattle.std.proofs.Common.{◌∙◌, List, ap}
use Rattle.std.specs.Prelude.{is_some}
use Rattle.tas_green.specs.declared.savestate.Savestate.{Savestate}
use Rattle.tas_green.specs.Zone.{state_at}
use Rattle.tas_green.specs.Batch.{BatchContent}
use Rattle.tas_green.proofs.batch.Batch.holds.Goals as goal

pub returns : goal.returns
returns g c = c.holds_at.ensures ∙ ap (λ (l : List Savestate). is_some (state_at c.args.frame l)) (c.as_slice.ensures.value ∙ ap (λ (b : BatchContent). b.states) c.self.view_is)
