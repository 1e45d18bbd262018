use Rattle.std.proofs.Common.{◌≤◌, ℕ, List, ap, sym, subst, ◌∙◌, rules}
use Rattle.std.specs.Prelude.{slice_index}
use Rattle.crossbeam_utils.specs.Seq.{cell_view}
use Rattle.tas_journaling.specs.Receipts.{told_by}
use Rattle.tas_journaling.proofs.ReceiptLemmas.{raises_as, raised_to, gives_as}
use Rattle.tas_journaling.proofs.receipts.give_receipt.Goals as goal

pub swap_as-requires : goal.swap_as-requires
swap_as-requires g c =
    let more = subst (λ (l : List ℕ). (cell_view c.args.keeper.now).upto ≤ slice_index l 0) (sym c.words.ensures) c.requires.more in
    (search rules, (search rules, (c.requires.own ∙ sym c.requires.cell, raises_as _ (cell_view c.args.keeper.now) c.words.result c.requires.keeps more)))

pub split_pass-pass-requires : goal.split_pass-pass-requires
split_pass-pass-requires g c =
    let s = c.swap_as.ensures in
    let raised = raised_to (cell_view c.args.keeper.now) (cell_view c.swap_as.new.pass) c.swap_as.result c.words.result c.args.upto c.requires.keeps s.rule c.words.ensures in
    (search rules, (search rules, (s.cell.0 ∙ c.requires.own ∙ sym c.requires.cell, gives_as _ (cell_view c.swap_as.new.pass) c.args.upto raised)))

pub returns-clause-own : goal.returns-clause-own
returns-clause-own g c = c.split_pass-pass.ensures.kept.0.0 ∙ c.swap_as.ensures.cell.0 ∙ c.requires.own

pub returns-clause-keeps : goal.returns-clause-keeps
returns-clause-keeps g c =
    let raised = raised_to (cell_view c.args.keeper.now) (cell_view c.swap_as.new.pass) c.swap_as.result c.words.result c.args.upto c.requires.keeps c.swap_as.ensures.rule c.words.ensures in
    c.split_pass-pass.ensures.kept.1 ∙ raised

pub invariant_of-result : goal.invariant_of-result
invariant_of-result g c =
    let raised = raised_to (cell_view c.args.keeper.now) (cell_view c.swap_as.new.pass) c.swap_as.result c.words.result c.args.upto c.requires.keeps c.swap_as.ensures.rule c.words.ensures in
    let t = c.split_pass-pass.ensures in
    (t.given.0 ∙ c.swap_as.ensures.cell.0 ∙ c.requires.own, t.given.2, sym (ap (λ v. v.told) t.given.1 ∙ ap (λ v. (told_by v).told) raised))
