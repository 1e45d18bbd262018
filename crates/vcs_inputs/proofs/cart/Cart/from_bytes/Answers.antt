use Rattle.std.proofs.Common.{rules}
use Rattle.vcs_inputs.proofs.cart.Cart.from_bytes.Goals as goal

pub copy_of-requires : goal.copy_of-requires
copy_of-requires g c = search rules
