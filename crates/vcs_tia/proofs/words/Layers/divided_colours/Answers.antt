use Rattle.std.proofs.Common.{◌∙◌, ◌&&◌, ap, cond, not, get_or}
use Rattle.std.proofs.lemmas.Simd.{get_or-replicate}
use Rattle.vcs_tia.specs.Units.{has_bit}
use Rattle.vcs_tia.specs.Inside.Words.{players_over}
use Rattle.vcs_tia.proofs.Bits.{has_bit-and}
use Rattle.vcs_tia.proofs.Layers.{bit_cleared, by_half}
use Rattle.vcs_tia.proofs.words.Layers.divided_colours.Goals as goal

pub returns : goal.returns
returns c =
    let l = c.args.self.now in
    let k = c.args.colours.now in
    let left = c.args.left in
    record {
      all = c.lay_players.ensures.all;
      lanes = λ i below.
          c.lay_players.ensures.lanes i below
          ∙ ap (players_over l k i)
          (c.lay-both.ensures.lanes i below
          ∙ ap (λ b. cond b k.player1 (get_or c.lay-left_half.result i 0)) (bit_cleared l.field left i c.ranges.left.fits below)
          ∙ ap (λ v. cond (not (has_bit left i) && has_bit l.field i) k.player1 v)
          (c.lay-left_half.ensures.lanes i below
          ∙ ap (λ b. cond b k.player0 (get_or c.lay-playfield.result i 0)) (has_bit-and l.field left i)
          ∙ ap (λ v. cond (has_bit l.field i && has_bit left i) k.player0 v)
          (c.lay-playfield.ensures.lanes i below
          ∙ ap (λ v. cond (has_bit l.playfield i) k.playfield v) (get_or-replicate 32 i k.background 0 below)))
          ∙ by_half (has_bit l.field i) (has_bit left i) k.player0 k.player1 (cond (has_bit l.playfield i) k.playfield k.background));
    }
