use Rattle.std.proofs.Common.{length, arith}
use Rattle.vcs_machine.proofs.Sizes.{least_bytes}
use Rattle.vcs_machine.proofs.cart.code_sides.Goals as goal

pub overflow_sub-result : goal.overflow_sub-result
overflow_sub-result c = let least = least_bytes (length c.args.rom.now) c.requires in omega (arith, least)

pub returns : goal.returns
returns c = let least = least_bytes (length c.args.rom.now) c.requires in omega (arith, least)
