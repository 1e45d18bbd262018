use Rattle.std.proofs.Common.{◌∙◌, ap, sym, cond}
use Rattle.std.proofs.lemmas.Simd.{get_or-replicate}
use Rattle.vcs_tia.specs.Units.{has_bit}
use Rattle.vcs_tia.specs.Inside.Words.{players_over, colour_of_layers}
use Rattle.vcs_tia.proofs.words.Layers.colours.Goals as goal

pub returns-then-priority : goal.returns-then-priority
returns-then-priority c =
    let l = c.args.self.now in
    let k = c.args.colours.now in
    record {
      all = c.lay.ensures.all;
      lanes = λ i below.
          c.lay.ensures.lanes i below
          ∙ ap (cond (has_bit l.playfield i) k.playfield)
          (c.lay_players-players.ensures.lanes i below ∙ ap (players_over l k i) (get_or-replicate 32 i k.background 0 below))
          ∙ ap (λ p. colour_of_layers l p k i) (sym c.if-priority.true);
    }

pub returns : goal.returns
returns c =
    let l = c.args.self.now in
    let k = c.args.colours.now in
    record {
      all = c.lay_players.ensures.all;
      lanes = λ i below.
          c.lay_players.ensures.lanes i below
          ∙ ap (players_over l k i)
          (c.lay-playfield.ensures.lanes i below ∙ ap (cond (has_bit l.playfield i) k.playfield) (get_or-replicate 32 i k.background 0 below))
          ∙ ap (λ p. colour_of_layers l p k i) (sym c.if-priority.false);
    }
