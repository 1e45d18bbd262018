use Rattle.std.proofs.Common.{◌≡◌, ◌∙◌, ◌+◌, ◌-◌, ◌*◌, ◌%◌, ◌^◌, ap, sym, ℕ, bit_or, arith}
use Rattle.std.proofs.lemmas.Nat.{or_lt}
use Rattle.std.specs.List.{list_any}
use Rattle.vcs_tia.specs.Units.{has_bit}
use Rattle.vcs_tia.specs.Objects.{copy_offsets}
use Rattle.vcs_tia.specs.declared.units.Copies.{Copies}
use Rattle.vcs_tia.proofs.Turned.{two_copies, three_copies, copy_below}
use Rattle.vcs_tia.proofs.rows.copied.Goals as goal

-- the copies that a variant has
by_copies : (p q : ℕ) (k k' : Copies) → k ≡ k' → list_any (λ o. has_bit p ((q + 160 - o) % 160)) (copy_offsets k') ≡ list_any (λ o. has_bit p ((q + 160 - o) % 160)) (copy_offsets k)
by_copies p q k k' is = ap (λ v. list_any (λ o. has_bit p ((q + 160 - o) % 160)) (copy_offsets v)) (sym is)

pub returns-in-TwoClose-clause-bits : goal.returns-in-TwoClose-clause-bits
returns-in-TwoClose-clause-bits c = λ q inside. two_copies c.args.pattern 16 q c.ranges.pattern.fits (omega arith) inside ∙ by_copies c.args.pattern q c.args.copies _ c.in-TwoClose.is

pub returns-in-TwoClose-clause-below : goal.returns-in-TwoClose-clause-below
returns-in-TwoClose-clause-below c = or_lt 96 c.args.pattern _ (omega arith) (copy_below c.args.pattern 16 c.ranges.pattern.fits (omega arith))

pub returns-in-TwoMedium-clause-bits : goal.returns-in-TwoMedium-clause-bits
returns-in-TwoMedium-clause-bits c = λ q inside. two_copies c.args.pattern 32 q c.ranges.pattern.fits (omega arith) inside ∙ by_copies c.args.pattern q c.args.copies _ c.in-TwoMedium.is

pub returns-in-TwoMedium-clause-below : goal.returns-in-TwoMedium-clause-below
returns-in-TwoMedium-clause-below c = or_lt 96 c.args.pattern _ (omega arith) (copy_below c.args.pattern 32 c.ranges.pattern.fits (omega arith))

pub returns-in-TwoWide-clause-bits : goal.returns-in-TwoWide-clause-bits
returns-in-TwoWide-clause-bits c = λ q inside. two_copies c.args.pattern 64 q c.ranges.pattern.fits (omega arith) inside ∙ by_copies c.args.pattern q c.args.copies _ c.in-TwoWide.is

pub returns-in-TwoWide-clause-below : goal.returns-in-TwoWide-clause-below
returns-in-TwoWide-clause-below c = or_lt 96 c.args.pattern _ (omega arith) (copy_below c.args.pattern 64 c.ranges.pattern.fits (omega arith))

pub returns-in-ThreeClose-clause-bits : goal.returns-in-ThreeClose-clause-bits
returns-in-ThreeClose-clause-bits c = λ q inside. three_copies c.args.pattern 16 32 q c.ranges.pattern.fits (omega arith) (omega arith) inside ∙ by_copies c.args.pattern q c.args.copies _ c.in-ThreeClose.is

pub returns-in-ThreeClose-clause-below : goal.returns-in-ThreeClose-clause-below
returns-in-ThreeClose-clause-below c =
    or_lt 96 (bit_or c.args.pattern (c.args.pattern * 2 ^ 16 % 2 ^ 128)) _ (or_lt 96 c.args.pattern _ (omega arith) (copy_below c.args.pattern 16 c.ranges.pattern.fits (omega arith)))
    (copy_below c.args.pattern 32 c.ranges.pattern.fits (omega arith))

pub returns-in-ThreeMedium-clause-bits : goal.returns-in-ThreeMedium-clause-bits
returns-in-ThreeMedium-clause-bits c = λ q inside. three_copies c.args.pattern 32 64 q c.ranges.pattern.fits (omega arith) (omega arith) inside ∙ by_copies c.args.pattern q c.args.copies _ c.in-ThreeMedium.is

pub returns-in-ThreeMedium-clause-below : goal.returns-in-ThreeMedium-clause-below
returns-in-ThreeMedium-clause-below c =
    or_lt 96 (bit_or c.args.pattern (c.args.pattern * 2 ^ 32 % 2 ^ 128)) _ (or_lt 96 c.args.pattern _ (omega arith) (copy_below c.args.pattern 32 c.ranges.pattern.fits (omega arith)))
    (copy_below c.args.pattern 64 c.ranges.pattern.fits (omega arith))
