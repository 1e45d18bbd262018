use Rattle.std.proofs.Common.{◌≡◌, ◌∙◌, ◌+◌, ◌-◌, ◌/◌, ap, ℕ, false, ltb, bit_or, eqb-true}
use Rattle.std.proofs.lemmas.Bool.{cond_both, not-false}
use Rattle.vcs_tia.specs.Units.{has_bit}
use Rattle.vcs_tia.specs.Playfield.{playfield_bit}
use Rattle.vcs_tia.specs.declared.playfield.Playfield.{Playfield}
use Rattle.vcs_tia.proofs.Bits.{has_bit-zero}
use Rattle.vcs_tia.proofs.Apart.{left_zero, right_zero}
use Rattle.vcs_tia.proofs.playfield.PlayfieldObject.may_be_lit.Goals as goal

no_bit : (v i : ℕ) → v ≡ 0 → has_bit v i ≡ false
no_bit v i none = ap (λ n. has_bit n i) none ∙ has_bit-zero i

dark : (f : Playfield) (n : ℕ) → f.pf0 ≡ 0 → f.pf1 ≡ 0 → f.pf2 ≡ 0 → playfield_bit f n ≡ false
dark f n a b c =
    cond_both (ltb n 4) (has_bit f.pf0 (4 + n)) _ (λ v. v ≡ false) (λ _. no_bit f.pf0 (4 + n) a)
    (λ _. cond_both (ltb n 12) (has_bit f.pf1 (11 - n)) (has_bit f.pf2 (n - 12)) (λ v. v ≡ false) (λ _. no_bit f.pf1 (11 - n) b) (λ _. no_bit f.pf2 (n - 12) c))

pub returns : goal.returns
returns c = λ no x _.
    let f = c.args.self.now in
    let none = eqb-true _ 0 (not-false _ no) in
    let low = left_zero (bit_or f.pf0 f.pf1) f.pf2 none in
    let each = λ (n : ℕ). dark f n (left_zero f.pf0 f.pf1 low) (right_zero f.pf0 f.pf1 low) (right_zero (bit_or f.pf0 f.pf1) f.pf2 none) in
    cond_both (ltb x 80) (playfield_bit f (x / 4)) _ (λ v. v ≡ false) (λ _. each (x / 4))
    (λ _. cond_both f.mirrored (playfield_bit f (19 - (x - 80) / 4)) (playfield_bit f ((x - 80) / 4)) (λ v. v ≡ false) (λ _. each (19 - (x - 80) / 4)) (λ _. each ((x - 80) / 4)))
