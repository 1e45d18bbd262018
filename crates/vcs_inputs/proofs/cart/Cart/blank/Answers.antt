use Rattle.std.proofs.Common.{rules}
use Rattle.vcs_inputs.proofs.cart.Cart.blank.Goals as goal

pub returns : goal.returns
returns g c = search rules
