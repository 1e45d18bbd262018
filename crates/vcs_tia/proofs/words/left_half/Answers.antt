use Rattle.std.proofs.Common.{◌≡◌, ◌+◌, ◌-◌, ◌<◌, ◌≤◌, ◌∙◌, ap, sym, arith, ltb, min, ℕ}
use Rattle.std.proofs.lemmas.Bool.{le-ltb}
use Rattle.std.proofs.lemmas.Bool.Decides.{nat_tests}
use Rattle.vcs_tia.specs.Units.{has_bit}
use Rattle.vcs_tia.proofs.Bits.{ones_bit, has_bit-zero}
use Rattle.vcs_tia.proofs.words.left_half.Goals as goal

same_side : (x i n : ℕ) → x < 80 → i < 32 → n ≡ min (80 - x) 32 → ltb i n ≡ ltb (x + i) 80
same_side x i n inside below least = grind (arith, nat_tests, least)

pub returns-then-x-ge80 : goal.returns-then-x-ge80
returns-then-x-ge80 c = λ i below.
    let past : 80 ≤ c.args.x + i = omega arith in
    has_bit-zero i ∙ sym (le-ltb (c.args.x + i) 80 past)

pub returns : goal.returns
returns c = λ i below.
    ap (λ n. has_bit n i) c.ones.ensures ∙ ones_bit c.min.result i ∙ same_side c.args.x i c.min.result c.if-x-ge80.false below c.min.ensures
