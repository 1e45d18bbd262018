use Rattle.std.proofs.Common.{◌≡◌, ◌∙◌, sym, rules}
use Rattle.tas_green.proofs.GreenLemmas.{same_bytes}
use Rattle.tas_green.proofs.green.batch_front.Given.{Over}
use Rattle.tas_green.proofs.green.batch_front.Goals as goal

same_cart : (g : Over) (c : goal.After-common_front g) → c.args.batch.now.cart ≡ c.args.movie.now.cart
same_cart g c =
    let same = same_bytes c.bytes.result.now c.bytes-2.result.now c.ne.result c.ne.ensures c.if-ne.false in
    sym c.cart-2.ensures ∙ sym c.bytes-2.ensures.value ∙ sym same ∙ c.bytes.ensures.value ∙ c.cart.ensures

pub returns-clause-cartridge : goal.returns-clause-cartridge
returns-clause-cartridge g c = (search rules, λ ne. absurd (ne (same_cart g c)))

pub returns-clause-front : goal.returns-clause-front
returns-clause-front g c = (rw (c.inputs.ensures, c.inputs-2.ensures.inputs) at c.common_front.ensures, same_cart g c)
