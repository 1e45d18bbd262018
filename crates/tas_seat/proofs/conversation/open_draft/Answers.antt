use Rattle.std.proofs.Common.{ap, ◌∙◌}
use Rattle.tas_green.specs.View.{ViewContent}
use Rattle.tas_seat.specs.Drafts.{fresh_draft}
use Rattle.tas_seat.proofs.conversation.open_draft.Goals as goal

pub returns : goal.returns
returns g c = c.new.ensures ∙ ap (λ (v : ViewContent). fresh_draft c.args.at v) (c.in_ok-view.ensures ∙ c.view.ensures)
