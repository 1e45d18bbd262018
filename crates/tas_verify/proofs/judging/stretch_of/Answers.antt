use Rattle.std.proofs.Common.{◌≡◌, ℕ, List, inr, refl, ap, subst, ◌∙◌}
use Rattle.tas_verify.specs.Rows.{after_line, first_stretch, SaysFrames}
use Rattle.tas_verify.proofs.judging.stretch_of.Goals as goal

pub returns-in-None-clause-has : goal.returns-in-None-clause-has
returns-in-None-clause-has c =
    let there : c.after_line-rest.result.now ≡ first_stretch c.args.digest.now = c.after_line-rest.ensures ∙ ap after_line (c.after_line-3.ensures ∙ ap after_line (c.after_line-2.ensures ∙ ap after_line c.after_line.ensures)) in
    inr (subst (λ (l : List ℕ). (n : ℕ) → SaysFrames l n → ⊥) there c.in-None.ensures.none, refl)
