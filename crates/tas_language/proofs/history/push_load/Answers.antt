use Rattle.std.proofs.lemmas.Grind.{common_steps}
use Rattle.std.proofs.Common.{ap, ◌∙◌, arith}
use Rattle.tas_language.proofs.HistoryLemmas.{small_put, large_put}
use Rattle.tas_language.proofs.history.push_load.Goals.{then-image-eq-SMALL_CART_SIZE+in_ok-push, else-image-eq-SMALL_CART_SIZE}
use Rattle.tas_language.proofs.history.push_load.Goals as goal

pub returns-clause-text : goal.returns-clause-text
returns-clause-text g c =
    let begun = c.in_ok-extend_from_slice.ensures.items in
    let named = c.in_ok-extend_from_slice-2.ensures.items in
    let marked = c.in_ok-extend_from_slice-3.ensures.items in
    let digits = c.in_ok-push_digits.ensures in
    let ended = c.in_ok-push-2.ensures.items in
    elim c.if-image-eq-SMALL_CART_SIZE.branch [
      | then-image-eq-SMALL_CART_SIZE+in_ok-push w ↦ small_put c.args.text.now.items _ _ _ _ _ _ c.args.prefix.now c.args.image.now w.if-image-eq-SMALL_CART_SIZE.true begun named
          (ap (λ v. v.items) w.text-is ∙ w.in_ok-push.ensures.items) marked digits ended
      | else-image-eq-SMALL_CART_SIZE w ↦ large_put c.args.text.now.items _ _ _ _ _ _ c.args.prefix.now c.args.image.now w.if-image-eq-SMALL_CART_SIZE.false begun named
          (ap (λ v. v.items) w.text-is) marked digits ended
    ]

pub returns-clause-bytes : goal.returns-clause-bytes
returns-clause-bytes g c = grind (arith, common_steps)
