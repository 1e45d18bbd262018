-- The addresses that an instruction reads to find its operand, in two parts. Only private functions cite this file.
use Rattle.std.specs.Prelude.{ℕ, ◌+◌, ◌%◌, List, [], ◌∷◌}
use Rattle.vcs_cpu.specs.declared.regs.Regs.{Regs}
use Rattle.vcs_cpu.specs.declared.op.Mode.{Mode}
use Rattle.vcs_cpu.specs.declared.op.Mode.TheVariants as mode
use Rattle.vcs_cpu.specs.Operands.{address_after, operand_byte_at, operand_word_at}
use Rattle.vcs_cpu.specs.Reads.{pointer_addresses, jump_addresses}

-- its code: the opcode and the bytes after it
abbrev pub code_addresses : Mode → ℕ → List ℕ
code_addresses mode.Implied pc = pc ∷ []
code_addresses mode.Accumulator pc = pc ∷ []
code_addresses mode.Immediate pc = pc ∷ address_after pc 1 ∷ []
code_addresses mode.ZeroPage pc = pc ∷ address_after pc 1 ∷ []
code_addresses mode.ZeroPageX pc = pc ∷ address_after pc 1 ∷ []
code_addresses mode.ZeroPageY pc = pc ∷ address_after pc 1 ∷ []
code_addresses mode.Relative pc = pc ∷ address_after pc 1 ∷ []
code_addresses mode.Absolute pc = pc ∷ address_after pc 1 ∷ address_after pc 2 ∷ []
code_addresses mode.AbsoluteX pc = pc ∷ address_after pc 1 ∷ address_after pc 2 ∷ []
code_addresses mode.AbsoluteY pc = pc ∷ address_after pc 1 ∷ address_after pc 2 ∷ []
code_addresses mode.Indirect pc = pc ∷ address_after pc 1 ∷ address_after pc 2 ∷ []
code_addresses mode.IndexedIndirect pc = pc ∷ address_after pc 1 ∷ []
code_addresses mode.IndirectIndexed pc = pc ∷ address_after pc 1 ∷ []
code_addresses mode.Vector pc = pc ∷ []

-- the pointer to the operand
abbrev pub pointing_addresses : Mode → Regs → (ℕ → ℕ) → List ℕ
pointing_addresses mode.Indirect r m = jump_addresses (operand_word_at r.pc m)
pointing_addresses mode.IndexedIndirect r m = pointer_addresses ((operand_byte_at r.pc m + r.x) % 256)
pointing_addresses mode.IndirectIndexed r m = pointer_addresses (operand_byte_at r.pc m)
pointing_addresses mode.Vector r m = 0xFFFE ∷ 0xFFFF ∷ []
pointing_addresses _ r m = []
