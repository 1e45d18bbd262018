use Rattle.std.proofs.lemmas.Grind.{common_steps}
use Rattle.std.proofs.lemmas.List.Elements.{All-nil, All-cons, All-append}
use Rattle.std.proofs.Common.{◌≡◌, ◌≤◌, ◌∙◌, ◌++◌, ◌∷◌, ℕ, List, [], All, refl, sym, ap, subst, arith, append-nil}
use Rattle.crossbeam_utils.specs.Seq.{cell_view}
use Rattle.tas_journaling.specs.declared.receipts.Known.{Known}
use Rattle.tas_journaling.specs.Receipts.{own_at}
use Rattle.tas_journaling.proofs.SharedLemmas.{none_of}
use Rattle.tas_journaling.proofs.shared_journal.take_all.Goals as goal

pub loop-receipt-init : goal.loop-receipt-init
loop-receipt-init g c =
    let given = c.into_iter-receipt-iterator.ensures.into_iter_gives in record {
      rest = given.0;
      len = c.into_iter-receipt-iterator.result.rest.ok.0;
      own = c.requires.own;
      same = refl;
      covered = All-nil (λ told. told ≤ (cell_view c.args.pass.now).upto);
    }

pub take_receipt-requires-clause-own : goal.take_receipt-requires-clause-own
take_receipt-requires-clause-own g c = c.loop-receipt.invariant.own

pub take_receipt-requires-clause-keeps : goal.take_receipt-requires-clause-keeps
take_receipt-requires-clause-keeps g c = subst (λ (v : Known). v ≡ own_at v.upto) (sym c.loop-receipt.invariant.same) c.requires.keeps

pub loop-receipt-preserved : goal.loop-receipt-preserved
loop-receipt-preserved g c =
    let l = c.loop-receipt.invariant in
    let P : ℕ → Type 0 = λ told. told ≤ (cell_view c.args.pass.now).upto in
    let one : P c.in-Some.receipt = subst (λ (v : Known). c.in-Some.receipt ≤ v.upto) l.same c.take_receipt.ensures.covered in record {
      rest = grind (arith, common_steps);
      len = grind (arith, common_steps);
      own = c.take_receipt.ensures.own;
      same = c.take_receipt.ensures.keeps ∙ l.same;
      covered = All-append P _ (c.in-Some.receipt ∷ []) l.covered (All-cons P c.in-Some.receipt [] one (All-nil P));
    }

pub returns : goal.returns
returns g c =
    let l = c.loop-receipt.invariant in
    let rest = c.loop-receipt.receipt-iterator.rest in
    let none : rest.items ≡ [] = none_of rest.items (omega (arith, rest.ok.0, c.in-None.ensures.steps.0)) in
    record { covered = subst (All (λ told. told ≤ (cell_view c.args.pass.now).upto)) (sym (append-nil c.loop-receipt.yielded) ∙ ap (λ (k : List ℕ). c.loop-receipt.yielded ++ k) (sym none) ∙ l.rest) l.covered }
