use Rattle.std.proofs.Common.{ℕ, List, [], ◌++◌, codes, ap, ◌∙◌}
use Rattle.tas_engines.specs.Digests.{digest_line}
use Rattle.tas_engines.proofs.StreamLemmas.{next_piece}
use Rattle.tas_engines.proofs.digest.digest_head.Goals as goal

pub returns : goal.returns
returns g c =
    let number = next_piece [] _ _ _ _ c.in_ok-out.ensures.items c.in_ok-push_number.ensures in
    let line = next_piece [] _ _ _ _ number c.in_ok-push.ensures.items in
    let image = ap (λ (bs : List ℕ). c.push.new.self.items ++ digest_line (codes "cart ") bs) (c.bytes.ensures.value ∙ c.cart.ensures) in
    let cart = next_piece [] _ _ _ _ line (c.in_ok-push_digest.ensures ∙ image) in
    let text = ap (λ (bs : List ℕ). c.push_digest.new.out.items ++ digest_line (codes "movie ") bs) (c.as_slice.ensures.value ∙ c.in_ok-text.ensures) in
    next_piece [] _ _ _ _ cart (c.in_ok-push_digest-2.ensures ∙ text)
