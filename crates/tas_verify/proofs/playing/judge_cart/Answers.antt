use Rattle.std.proofs.Common.{List, ℕ, inl, inr, map, refl, ◌∙◌, ap, sym, subst}
use Rattle.tas_verify.specs.Manifest.{words_in}
use Rattle.tas_verify.specs.Rows.{IsAnother}
use Rattle.tas_verify.proofs.RowLemmas.{cart_another, cart_judged}
use Rattle.tas_verify.proofs.ManifestLemmas.{clash}
use Rattle.tas_verify.proofs.playing.judge_cart.Goals as goal

pub returns-then-is_another : goal.returns-then-is_another
returns-then-is_another g c =
    cart_another (g.S.Shelf.facts c.args.shelf.now) (words_in c.args.row) c.args.text.items c.in-Ok.image.items c.in-Ok.ensures.read (subst (IsAnother c.args.row.cart.now) c.as_slice.ensures.value (c.is_another.ensures.0 c.if-is_another.true))

pub returns-in-Ok-in_a_list : goal.returns-in-Ok-in_a_list
returns-in-Ok-in_a_list g c =
    cart_judged (g.S.Shelf.facts c.args.shelf.now) (words_in c.args.row) c.args.text.items c.in-Ok.image.items _ c.in-Ok.ensures.finds c.in-Ok.ensures.read
    (λ a. clash c.is_another.result c.if-is_another.false (c.is_another.ensures.1 (subst (λ (i : List ℕ). IsAnother c.args.row.cart.now i) (sym c.as_slice.ensures.value) a)))
    (inr (c.judge_digest.ensures c.in-Ok.image.items c.args.text.items (ap (map (λ b. b.items)) c.as_slice-in-Ok-in_a_list.ensures.value ∙ c.in-Ok-in_a_list.ensures)))

pub returns-in-Err-in_a_list : goal.returns-in-Err-in_a_list
returns-in-Err-in_a_list g c =
    cart_judged (g.S.Shelf.facts c.args.shelf.now) (words_in c.args.row) c.args.text.items c.in-Ok.image.items _ c.in-Ok.ensures.finds c.in-Ok.ensures.read
    (λ a. clash c.is_another.result c.if-is_another.false (c.is_another.ensures.1 (subst (λ (i : List ℕ). IsAnother c.args.row.cart.now i) (sym c.as_slice.ensures.value) a)))
    (inl refl)

pub returns-in-Err : goal.returns-in-Err
returns-in-Err g c = (c.in-Err.ensures.there, inl c.in-Err.ensures.fault)
