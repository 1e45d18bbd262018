use Rattle.std.proofs.Common.{string_bytes}
use Rattle.tas_program.proofs.VerifyLemmas.{in_more, item_in}
use Rattle.tas_program.proofs.verifying.carts_among.Goals as goal

pub loop-path-preserved : goal.loop-path-preserved
loop-path-preserved g c = λ dir all.
    in_more dir c.as_str.result.now c.loop-path.carts.items c.push_cart.new.carts.items
    (item_in string_bytes dir c.as_str.result.now c.args.paths.now c.loop-path.path-index c.path-item.result c.loop-path-test.true c.path-item.is c.as_str.ensures.value all) c.in_ok-push_cart.ensures.cart (c.loop-path.invariant dir all)
