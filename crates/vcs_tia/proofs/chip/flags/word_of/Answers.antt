use Rattle.std.proofs.Common.{◌∙◌, ◌<◌, ◌+◌, ◌*◌, ◌^◌, ◌%◌, refl, ap, get_or, false, ℕ, arith}
use Rattle.vcs_tia.specs.Inside.Rows.{number_of}
use Rattle.vcs_tia.proofs.Packing.{bit_more, bit_none, bit_fits}
use Rattle.vcs_tia.proofs.chip.flags.word_of.Goals as goal
use Rattle.vcs_tia.proofs.chip.flags.word_of.Goals.{then-flags-i, else-flags-i}

pub loop-i-init : goal.loop-i-init
unfolding number_of
loop-i-init c = (refl, omega arith)

pub overflow_add-word : goal.overflow_add-word
overflow_add-word c =
    let f = λ (k : ℕ). get_or c.args.flags.now k false in
    let i = c.loop-i.i in
    let test = c.loop-i-test.true in
    let few = c.requires in
    let below : i < 32 = omega arith in
    let fits = bit_fits f i below in
    let is = c.loop-i.invariant.0 in
    omega arith

pub loop-i-preserved : goal.loop-i-preserved
loop-i-preserved c =
    let f = λ (k : ℕ). get_or c.args.flags.now k false in
    let i = c.loop-i.i in
    let test = c.loop-i-test.true in
    let few = c.requires in
    let below : i < 32 = omega arith in (
      elim c.if-flags-i.branch [
        | then-flags-i w ↦ w.word-is ∙ ap (λ k. k + 1 * 2 ^ i % 2 ^ 32) c.loop-i.invariant.0 ∙ bit_more f i below w.if-flags-i.true
        | else-flags-i w ↦ w.word-is ∙ c.loop-i.invariant.0 ∙ bit_none f i w.if-flags-i.false
      ],
      omega arith,
    )
