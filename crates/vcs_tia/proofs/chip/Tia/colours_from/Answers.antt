use Rattle.std.proofs.Common.{◌≡◌, ◌+◌, ◌*◌, ◌/◌, ◌%◌, ◌∙◌, sym, ap, subst, arith}
use Rattle.vcs_tia.specs.declared.playfield.Playfield.{Playfield}
use Rattle.vcs_tia.specs.Latches.{Lit}
use Rattle.vcs_tia.specs.Tia.{lit_at}
use Rattle.vcs_tia.specs.Inside.Words.{AreLayers, colour_of_layers, divided_colour_of_layers}
use Rattle.vcs_tia.proofs.Layers.{layer_colour, divided_layer_colour}
use Rattle.vcs_tia.proofs.chip.Tia.colours_from.Goals as goal

pub returns-then-is_split-clause-colours : goal.returns-then-is_split-clause-colours
returns-then-is_split-clause-colours c = λ i below inside.
    let t = c.args.self.now in
    let x = c.args.x in
    let l = c.layers-layers.result in
    let place : 32 * (c.args.x / 32) + (c.args.x % 32 + i) ≡ c.args.x + i = omega arith in
    let there = c.windows-windows.ensures (x % 32 + i) (omega arith) (omega arith) ∙ ap (lit_at t) place in
    let layers = subst (λ (s : Lit). AreLayers l i s) there (c.layers-layers.ensures i below) in
    c.divided_colours.ensures.lanes i below
    ∙ ap (λ b. divided_colour_of_layers l b t.colours i) (c.left_half.ensures i below)
    ∙ sym (divided_layer_colour t l i (x + i) (sym c.is_split.ensures ∙ c.if-is_split.true) layers)

pub returns-clause-colours : goal.returns-clause-colours
returns-clause-colours c = λ i below inside.
    let t = c.args.self.now in
    let x = c.args.x in
    let l = c.layers-layers.result in
    let place : 32 * (c.args.x / 32) + (c.args.x % 32 + i) ≡ c.args.x + i = omega arith in
    let there = c.windows-windows.ensures (x % 32 + i) (omega arith) (omega arith) ∙ ap (lit_at t) place in
    let layers = subst (λ (s : Lit). AreLayers l i s) there (c.layers-layers.ensures i below) in
    c.colours.ensures.lanes i below
    ∙ ap (λ b. colour_of_layers l b t.colours i) (ap (λ (p : Playfield). p.priority) c.settings-settings.ensures)
    ∙ sym (layer_colour t l i (x + i) (sym c.is_split.ensures ∙ c.if-is_split.false) layers)
