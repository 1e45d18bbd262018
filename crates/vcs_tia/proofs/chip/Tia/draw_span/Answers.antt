use Rattle.std.proofs.Common.{◌≡◌, ◌+◌, ◌-◌, ◌≤◌, ◌*◌, ◌∙◌, ap, arith}
use Rattle.vcs_tia.specs.Inside.Spans.{filled}
use Rattle.vcs_tia.specs.Trace.{trace, drawn}
use Rattle.vcs_tia.proofs.Drawing.{black_span, drawn_span, lit_colour}
use Rattle.vcs_tia.proofs.Meeting.{with_beam}
use Rattle.vcs_tia.proofs.chip.Tia.draw_span.Goals as goal

pub returns-then-black-count : goal.returns-then-black-count
returns-then-black-count g c =
    let u = with_beam c.args.self.now c.args.beam.now in
    let all = c.if-black-count.true in
    let black = c.black_pixels-black.ensures.black in
    c.fill.ensures
    ∙ black_span c.black_pixels-black.result u c.args.x c.args.row c.args.picture.now c.requires.clock (omega arith) c.requires.row c.requires.bottom black
    ∙ ap (λ n. drawn (trace n u) c.args.picture.now) all

pub returns : goal.returns
returns g c =
    let u = with_beam c.args.self.now c.args.beam.now in
    let m = c.black_pixels-black.result in
    let n = c.args.count - m in
    let most = c.black_pixels-black.ensures.most in
    let whole : c.black_pixels-black.result + (c.args.count - c.black_pixels-black.result) ≡ c.args.count = omega arith in
    let inside : c.args.x + (c.black_pixels-black.result + (c.args.count - c.black_pixels-black.result)) ≤ 160 = omega arith in
    c.draw_pixels.ensures
    ∙ ap (λ p. filled p (c.args.row * 160 + (c.args.x + m)) n (lit_colour u (c.args.x + m))) c.fill.ensures
    ∙ drawn_span m n u c.args.x c.args.row c.args.picture.now c.requires.clock inside c.requires.row c.requires.bottom
    c.black_pixels-black.ensures.black (λ k low high. c.black_pixels-black.ensures.others k low (omega arith))
    ∙ ap (λ k. drawn (trace k u) c.args.picture.now) whole
