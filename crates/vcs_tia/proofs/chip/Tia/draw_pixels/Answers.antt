use Rattle.std.proofs.Common.{◌≡◌, ◌+◌, ◌-◌, ◌*◌, ◌<◌, ◌∙◌, sym, ap, arith, get_or}
use Rattle.vcs_tia.specs.Inside.Spans.{filled}
use Rattle.vcs_tia.specs.Tia.{colour_of_lit, lit_at}
use Rattle.vcs_tia.proofs.Drawing.{lit_colour}
use Rattle.vcs_tia.proofs.Fills.{filled_same, filled_more}
use Rattle.vcs_tia.proofs.Layers.{dark_colour}
use Rattle.vcs_tia.proofs.chip.Tia.draw_pixels.Goals as goal

pub returns-then-is_dark : goal.returns-then-is_dark
returns-then-is_dark g c =
    let t = c.args.self.now in
    let x = c.args.x in
    c.fill.ensures
    ∙ filled_same c.args.picture.now (c.args.row * 160 + x) c.args.count _ (lit_colour t x)
    (λ k h.
    let inside : c.args.x + k < 160 = omega arith in
    sym (dark_colour t (x + k) (c.is_dark.ensures c.if-is_dark.true (x + k) inside)))

pub loop-at-init : goal.loop-at-init
unfolding filled
loop-at-init g c =
    let none : 0 ≡ c.args.x - c.args.x = omega arith in
    record { from = omega arith; to = omega arith; picture = ap (λ n. filled c.args.picture.now (c.args.row * 160 + c.args.x) n (lit_colour c.args.self.now c.args.x)) none }

pub loop-at-preserved : goal.loop-at-preserved
loop-at-preserved g c =
    let t = c.args.self.now in
    let x = c.args.x in
    let at = c.loop-at.at in
    let next = c.min-next.result in
    let start = c.args.row * 160 + x in
    let f = lit_colour t x in
    let m = at - x in
    let n = next - at in
    let from = c.loop-at.invariant.from in
    let to = c.loop-at.invariant.to in
    let least = c.min-next.ensures in
    let place : c.args.row * 160 + c.loop-at.at ≡ c.args.row * 160 + c.args.x + (c.loop-at.at - c.args.x) = omega arith in
    let whole : c.loop-at.at - c.args.x + (c.min-next.result - c.loop-at.at) ≡ c.min-next.result - c.args.x = omega arith in
    record {
      from = omega arith;
      to = omega arith;
      picture =
          c.put_pixels.ensures
          ∙ ap (λ s. filled c.loop-at.picture s n (λ k. get_or c.colours_from-colours.result k 0)) place
          ∙ filled_same c.loop-at.picture (start + m) n (λ k. get_or c.colours_from-colours.result k 0) (λ k. f (m + k))
          (λ k h.
          let inside : c.loop-at.at + k < 160 = omega arith in
          let there : c.loop-at.at + k ≡ c.args.x + (c.loop-at.at - c.args.x + k) = omega arith in
          c.colours_from-colours.ensures.colours k (omega arith) inside ∙ ap (λ y. colour_of_lit t (lit_at t y) y) there)
          ∙ ap (λ p. filled p (start + m) n (λ k. f (m + k))) c.loop-at.invariant.picture
          ∙ filled_more c.args.picture.now start m n f
          ∙ ap (λ k. filled c.args.picture.now start k f) whole;
    }

pub returns : goal.returns
returns g c =
    let t = c.args.self.now in
    let x = c.args.x in
    let from = c.loop-at.invariant.from in
    let to = c.loop-at.invariant.to in
    let done : c.loop-at.at - c.args.x ≡ c.args.count = omega arith in
    c.loop-at.invariant.picture ∙ ap (λ n. filled c.args.picture.now (c.args.row * 160 + x) n (lit_colour t x)) done
