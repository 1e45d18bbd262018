use Rattle.std.proofs.lemmas.Grind.{common_steps}
use Rattle.std.proofs.Common.{subst, refl, arith}
use Rattle.byte_text.specs.Splitting.{NoByte}
use Rattle.byte_text.proofs.SplitLemmas.{no_parts}
use Rattle.tas_verify.proofs.ManifestLemmas.{positive, clash}
use Rattle.tas_verify.proofs.manifest.are_words.Goals as goal

pub returns-in-Some : goal.returns-in-Some
returns-in-Some c = (λ yes. absurd (clash _ refl yes), λ w. absurd (no_parts c.args.mark _ _ (subst (NoByte c.args.mark) c.in-Some.ensures.some.0 w.3)))

pub returns-in-None : goal.returns-in-None
returns-in-None c = (λ yes. (positive _ _ c.is_empty.ensures c.if-is_empty.false, positive _ _ c.is_empty-else-is_empty.ensures c.if-is_empty-2.false, positive _ _ c.is_empty-else-is_empty-2.ensures c.if-is_empty-3.false, c.in-None.ensures.none), λ w. refl)

pub returns-then-is_empty : goal.returns-then-is_empty
returns-then-is_empty c = grind (arith, common_steps)
