use Rattle.std.proofs.Common.{◌∙◌, ◌/◌, ◌^◌}
use Rattle.vcs_tia.proofs.Bits.{has_bit-mod, has_bit-shr}
use Rattle.vcs_tia.proofs.rows.part.Goals as goal

pub returns : goal.returns
returns c = λ i below. has_bit-mod (c.args.bits / 2 ^ c.args.from) 32 i below ∙ has_bit-shr c.args.bits c.args.from i
