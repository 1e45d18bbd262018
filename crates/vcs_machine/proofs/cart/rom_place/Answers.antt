use Rattle.std.proofs.Common.{length, arith}
use Rattle.vcs_machine.proofs.Sizes.{low_lines, some_bytes}
use Rattle.vcs_machine.proofs.cart.rom_place.Goals as goal

pub overflow_sub-result : goal.overflow_sub-result
overflow_sub-result c = let some = some_bytes (length c.args.rom.now) c.requires in omega (arith, some)

pub returns-clause-place : goal.returns-clause-place
returns-clause-place c = low_lines (length c.args.rom.now) c.args.address c.requires

pub returns-clause-below : goal.returns-clause-below
returns-clause-below c =
    let some = some_bytes (length c.args.rom.now) c.requires in
    let low = low_lines (length c.args.rom.now) c.args.address c.requires in
    omega (arith, some, low)
