use Rattle.std.proofs.Common.{◌≤◌, ap, sym, subst, ◌∙◌, rules}
use Rattle.crossbeam_utils.specs.Seq.{cell_view}
use Rattle.tas_journaling.specs.declared.receipts.Known.{Known}
use Rattle.tas_journaling.specs.Receipts.{own_at}
use Rattle.tas_journaling.proofs.ReceiptLemmas.{takes_as, compares_as}
use Rattle.tas_journaling.proofs.receipts.take_receipt.Goals as goal

pub join_pass-requires : goal.join_pass-requires
join_pass-requires g c =
    let r = c.receipt.invariant in
    (search rules, (search rules, ((c.requires.own ∙ sym c.requires.cell, r.0 ∙ sym c.requires.own, r.1), takes_as _ (cell_view c.args.keeper.now) (cell_view c.args.keeper.now).upto _ _ c.requires.keeps)))

pub load_as-requires : goal.load_as-requires
load_as-requires g c =
    let j = c.join_pass.ensures in
    (search rules, (search rules, (j.0.0 ∙ c.requires.own ∙ sym c.requires.cell, compares_as _ (cell_view c.join_pass.new.pass) (ap (λ v. v.keeps) j.1 ∙ ap (λ v. v.keeps) c.requires.keeps))))

pub returns-clause-own : goal.returns-clause-own
returns-clause-own g c = c.load_as.ensures.cell.0 ∙ c.join_pass.ensures.0.0 ∙ c.requires.own

pub returns-clause-keeps : goal.returns-clause-keeps
returns-clause-keeps g c =
    let j = c.join_pass.ensures in
    c.load_as.ensures.rule.0 ∙ ap (λ (v : Known). own_at v.upto) j.1 ∙ sym c.requires.keeps

pub returns-clause-covered : goal.returns-clause-covered
returns-clause-covered g c =
    let j = c.join_pass.ensures in
    let told = subst (λ (v : Known). v.told ≤ v.upto) j.1 c.load_as.ensures.rule.1 in
    subst (λ n. n ≤ (cell_view c.args.keeper.now).upto) (sym c.receipt.invariant.2 ∙ c.receipt.view_is) told
