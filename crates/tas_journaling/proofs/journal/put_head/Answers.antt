use Rattle.std.proofs.Common.{◌∙◌, List, ℕ, subst}
use Rattle.std.specs.Prelude.{IfErr}
use Rattle.tas_journaling.specs.Journals.{IsGivenPart}
use Rattle.tas_journaling.proofs.journal.put_head.Goals as goal

pub returns-clause-cut : goal.returns-clause-cut
returns-clause-cut g c =
    subst (λ (l : List ℕ). IfErr c.append.result (IsGivenPart (g.J.Write.contents c.args.file.now) (g.J.Write.contents c.append.new.file) l)) (c.as_slice.ensures.value ∙ c.in-Ok.ensures) c.append.ensures.cut
