use Rattle.std.proofs.Common.{◌*◌, ◌^◌, ◌∙◌, ap, reverse}
use Rattle.tas_search.proofs.PowerLemmas.{text_reversed, times_whole}
use Rattle.tas_search.proofs.power.product_text.Goals as goal

pub returns : goal.returns
returns g c =
    text_reversed c.in_ok-product.product.items c.in_ok-text.text.items (c.args.factor * c.args.base ^ c.args.exponent)
    (times_whole c.in_ok-digits.digits.items c.in_ok-product.product.items c.args.factor (c.args.base ^ c.args.exponent) c.in_ok-digits.ensures (rw c.as_slice.ensures.value at c.in_ok-product.ensures))
    (c.in_ok-text.ensures ∙ ap reverse c.as_slice-2.ensures.value)
