use Rattle.std.proofs.Common.{◌∙◌, ap, cond}
use Rattle.vcs_tia.specs.Units.{has_bit}
use Rattle.vcs_tia.proofs.words.Layers.lay_players.Goals as goal

pub returns : goal.returns
returns c =
    record {
      all = c.lay.ensures.all;
      lanes = λ i below.
          c.lay.ensures.lanes i below
          ∙ ap (cond (has_bit c.args.self.now.player0 i) c.args.colours.now.player0) (c.lay-player1.ensures.lanes i below);
    }
