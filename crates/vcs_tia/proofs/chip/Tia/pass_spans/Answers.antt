use Rattle.std.proofs.Common.{◌≡◌, ◌+◌, ◌-◌, ◌*◌, ◌/◌, ◌%◌, ◌∙◌, sym, ap, arith}
use Rattle.vcs_tia.specs.declared.chip.Tia.{Tia}
use Rattle.vcs_tia.specs.Beam.{beam_clocks}
use Rattle.vcs_tia.specs.Trace.{after_clocks}
use Rattle.vcs_tia.proofs.Traces.{beam_clocks-after_clocks, after_clocks-add}
use Rattle.vcs_tia.proofs.chip.Tia.pass_spans.Goals as goal

pub loop-rest-preserved-then-is_at_line : goal.loop-rest-preserved-then-is_at_line
loop-rest-preserved-then-is_at_line c =
    let t = c.loop-rest.self in
    let lines = 228 * (c.loop-rest.rest / 228) in
    let rest = c.loop-rest.rest % 228 in
    let whole : 228 * (c.loop-rest.rest / 228) + c.loop-rest.rest % 228 ≡ c.loop-rest.rest = omega arith in
    let moved = ap (λ (u : Tia). beam_clocks u.beam) c.pass_lines.ensures in
    let counted = beam_clocks-after_clocks lines t in
    record {
      tia = ap (after_clocks rest) c.pass_lines.ensures ∙ sym (after_clocks-add lines rest t) ∙ ap (λ k. after_clocks k t) whole ∙ c.loop-rest.invariant.tia;
      beam = omega (arith, moved, counted, whole, c.loop-rest.invariant.beam);
    }

pub loop-rest-preserved : goal.loop-rest-preserved
loop-rest-preserved c =
    let t = c.loop-rest.self in
    let part = c.part-part.result in
    let rest = c.loop-rest.rest - part in
    let most = c.part-part.ensures.most in
    let whole : c.part-part.result + (c.loop-rest.rest - c.part-part.result) ≡ c.loop-rest.rest = omega arith in
    let moved = ap (λ (u : Tia). beam_clocks u.beam) c.pass_part.ensures in
    let counted = beam_clocks-after_clocks part t in
    record {
      tia = ap (after_clocks rest) c.pass_part.ensures ∙ sym (after_clocks-add part rest t) ∙ ap (λ k. after_clocks k t) whole ∙ c.loop-rest.invariant.tia;
      beam = omega arith;
    }

pub returns : goal.returns
unfolding after_clocks
returns c =
    let done : 0 ≡ c.loop-rest.rest = omega arith in
    ap (λ k. after_clocks k c.loop-rest.self) done ∙ c.loop-rest.invariant.tia
