use Rattle.std.proofs.Common.{◌∙◌, rules, sym}
use Rattle.std.proofs.lemmas.Bool.Decides.{Decides-at, Decides-like, same_from_decides}
use Rattle.vcs_tia.specs.contracts.chip.packed.PartsPartialEq.TheImpl as parts
use Rattle.vcs_tia.specs.Inside.PackedEquality.{are_same_tias}
use Rattle.vcs_tia.proofs.Packing.{parts_decide, tias_decide}
use Rattle.vcs_tia.proofs.chip.packed.PackedTiaPartialEq.eq.Goals as goal

pub returns-clause-same : goal.returns-clause-same
returns-clause-same c =
    let p = c.self.inside.parts in
    let q = c.other.inside.parts in
    Decides-at c.eq.result (parts.ghosts.eq p q) (search rules)
    (Decides-like (parts.ghosts.eq p q) (λ e. sym c.self.view_is ∙ e ∙ c.other.view_is) (λ e. c.self.view_is ∙ e ∙ sym c.other.view_is)
    (parts_decide p q c.self.invariant c.other.invariant))

pub returns-clause-value : goal.returns-clause-value
returns-clause-value c =
    let a = c.args.self.now in
    let b = c.args.other.now in
    same_from_decides c.eq.result (are_same_tias a b) (returns-clause-same c) (tias_decide a b)
