use Rattle.std.proofs.Common.{◌∙◌, ap, sym, Some, eqb}
use Rattle.tas_green.specs.Zone.{state_at, first_of, is_on_grid}
use Rattle.tas_green.proofs.ZoneLemmas.{where_kept}
use Rattle.tas_green.proofs.zone.put_on_grid.Goals as goal

pub returns-then-is_on_grid-clause-states : goal.returns-then-is_on_grid-clause-states
returns-then-is_on_grid-clause-states g c = λ f.
    let on = sym c.is_on_grid.ensures ∙ c.if-is_on_grid.true in
    let kept = c.args.kept in
    c.put.ensures.states f
    ∙ ap (λ there. first_of (state_at f c.args.states.now.items) there) (where_kept (is_on_grid c.args.stride c.args.last kept.frame) (eqb kept.frame f) (Some kept.state) on)
