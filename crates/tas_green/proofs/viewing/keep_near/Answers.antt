use Rattle.std.proofs.Common.{◌∙◌, ap, sym, Some, eqb}
use Rattle.tas_green.specs.Window.{is_near}
use Rattle.tas_green.specs.Zone.{state_at, first_of, where_true}
use Rattle.tas_green.proofs.ZoneLemmas.{where_kept}
use Rattle.tas_green.proofs.viewing.keep_near.Goals as goal

pub returns-then-is_near-clause-states : goal.returns-then-is_near-clause-states
returns-then-is_near-clause-states g c = λ f.
    let near = sym c.is_near.ensures ∙ c.if-is_near.true in
    let frame = c.args.frame in
    c.put.ensures.states f
    ∙ ap (λ state. first_of (state_at f c.args.states.now.items) (where_true (eqb frame f) (Some state))) c.pack-state.ensures
    ∙ ap (λ there. first_of (state_at f c.args.states.now.items) there) (where_kept (is_near c.args.end frame) (eqb frame f) (Some c.args.state.now) near)
