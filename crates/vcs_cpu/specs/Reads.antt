-- The addresses that an instruction reads, from its opcode to the last byte that it pulls.
use Rattle.std.specs.Prelude.{◌≡◌, ◌<◌, ℕ, ◌+◌, ◌*◌, ◌/◌, ◌%◌, Bool, false, List, [], ◌∷◌, ◌++◌, Option, Some, None}
use Rattle.vcs_cpu.specs.declared.regs.Regs.{Regs}
use Rattle.vcs_cpu.specs.declared.op.Op.{Op}
use Rattle.vcs_cpu.specs.declared.op.Mode.{Mode}
use Rattle.vcs_cpu.specs.declared.op.Mode.TheVariants as mode
use Rattle.vcs_cpu.specs.Operands.{address_after, operand_byte_at, operand_word_at, operand_of_mode}
use Rattle.vcs_cpu.specs.Effects.{read_addresses}
use Rattle.vcs_cpu.specs.Rows.{Row, row_of}

-- the byte after the opcode
abbrev pub byte_address : Regs → List ℕ
byte_address r = address_after r.pc 1 ∷ []

-- the two bytes after the opcode
abbrev pub word_addresses : Regs → List ℕ
word_addresses r = address_after r.pc 1 ∷ address_after r.pc 2 ∷ []

-- a pointer's two bytes on page 0
abbrev pub pointer_addresses : ℕ → List ℕ
pointer_addresses cell = cell ∷ ((cell + 1) % 256) ∷ []

-- the two bytes of an indirect jump's pointer
abbrev pub jump_addresses : ℕ → List ℕ
jump_addresses address = address ∷ (256 * (address / 256) + (address + 1) % 256) ∷ []

-- where a mode reads operand and pointer bytes to find the operand, as the memory m shows them
abbrev pub finding_addresses : Mode → Regs → (ℕ → ℕ) → List ℕ
finding_addresses mode.Implied r m = []
finding_addresses mode.Accumulator r m = []
finding_addresses mode.Immediate r m = byte_address r
finding_addresses mode.ZeroPage r m = byte_address r
finding_addresses mode.ZeroPageX r m = byte_address r
finding_addresses mode.ZeroPageY r m = byte_address r
finding_addresses mode.Relative r m = byte_address r
finding_addresses mode.Absolute r m = word_addresses r
finding_addresses mode.AbsoluteX r m = word_addresses r
finding_addresses mode.AbsoluteY r m = word_addresses r
finding_addresses mode.Indirect r m = word_addresses r ++ jump_addresses (operand_word_at r.pc m)
finding_addresses mode.IndexedIndirect r m = byte_address r ++ pointer_addresses ((operand_byte_at r.pc m + r.x) % 256)
finding_addresses mode.IndirectIndexed r m = byte_address r ++ pointer_addresses (operand_byte_at r.pc m)
finding_addresses mode.Vector r m = 0xFFFE ∷ 0xFFFF ∷ []

-- the opcode is read, then what finds the operand, then operands are read and bytes pulled
abbrev pub addresses_of : Op → Mode → Regs → (ℕ → ℕ) → List ℕ
addresses_of o mode r m = r.pc ∷ finding_addresses mode r m ++ read_addresses o (operand_of_mode mode r m) r

-- without a row the opcode alone
abbrev pub addresses_of_row : Option Row → Regs → (ℕ → ℕ) → List ℕ
addresses_of_row None r m = r.pc ∷ []
addresses_of_row (Some row) r m = addresses_of row.op row.mode r m

-- all addresses that the instruction at r.pc reads
unfoldable pub addresses_read : Regs → (ℕ → ℕ) → List ℕ
addresses_read r m = addresses_of_row (row_of (m r.pc)) r m

-- none of the three bytes of code from an address on is watched
abbrev pub IsCodeUnwatched : (ℕ → Bool) → ℕ → Type 0
IsCodeUnwatched is_watched pc = (k : ℕ) → k < 3 → is_watched (address_after pc k) ≡ false
