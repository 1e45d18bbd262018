use Rattle.std.proofs.Common.{◌∙◌, ap, arith}
use Rattle.vcs_cpu.specs.Arithmetic.{after_binary_subtract}
use Rattle.vcs_cpu.specs.Inside.Shifted.{shifted_difference_byte}
use Rattle.vcs_cpu.specs.Status.{bit}
use Rattle.vcs_cpu.proofs.Differences.{difference_byte-shifted}
use Rattle.vcs_cpu.proofs.Flags.{bool_byte-bit}
use Rattle.vcs_cpu.proofs.arithmetic.subtract_decimal.Goals as goal

pub returns : goal.returns
returns c =
    let r = c.args.regs in
    let m = c.args.m in
    let byte = c.decimal_difference_byte-rest.ensures ∙ ap (shifted_difference_byte r.a m) (bool_byte-bit r.c) ∙ difference_byte-shifted r.a m (bit r.c) (omega arith) in
    rw (c.add_binary.ensures) (ap (λ a. record (after_binary_subtract r m) { a = a }) byte)
