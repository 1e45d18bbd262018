-- Whether an instruction reads at one of some addresses.
use Rattle.std.proofs.Common.{◌≡◌, ℕ, ◌<◌, ◌∙◌, Bool, false, ◌||◌, ap, sym, refl, List, [], ◌∷◌, ◌++◌, Option, Some, None, unwrap_or, arith}
use Rattle.std.specs.List.{list_any}
use Rattle.std.specs.Option.{option_map}
use Rattle.std.proofs.lemmas.List.Folds.{list_any-append}
use Rattle.std.proofs.Math.Bool.{or-false}
use Rattle.vcs_cpu.specs.declared.regs.Regs.{Regs}
use Rattle.vcs_cpu.specs.declared.op.Op.{Op}
use Rattle.vcs_cpu.specs.declared.op.Mode.{Mode}
use Rattle.vcs_cpu.specs.declared.op.Mode.TheVariants as mode
use Rattle.vcs_cpu.specs.declared.opcode.Instruction.{Instruction}
use Rattle.vcs_cpu.specs.Rows.{Row, row_of, instruction_in, instruction_of}
use Rattle.vcs_cpu.specs.Operands.{address_after, operand_of_mode}
use Rattle.vcs_cpu.specs.Effects.{read_addresses}
use Rattle.vcs_cpu.specs.Reads.{addresses_read, addresses_of, addresses_of_row, finding_addresses, IsCodeUnwatched}
use Rattle.vcs_cpu.specs.Inside.Parts.{code_addresses, pointing_addresses}

-- the two parts of what finds the operand
parts : (mode : Mode) (r : Regs) (m : ℕ → ℕ) → code_addresses mode r.pc ++ pointing_addresses mode r m ≡ r.pc ∷ finding_addresses mode r m
parts mode.Implied r m = refl
parts mode.Accumulator r m = refl
parts mode.Immediate r m = refl
parts mode.ZeroPage r m = refl
parts mode.ZeroPageX r m = refl
parts mode.ZeroPageY r m = refl
parts mode.Relative r m = refl
parts mode.Absolute r m = refl
parts mode.AbsoluteX r m = refl
parts mode.AbsoluteY r m = refl
parts mode.Indirect r m = refl
parts mode.IndexedIndirect r m = refl
parts mode.IndirectIndexed r m = refl
parts mode.Vector r m = refl

-- where no address is watched, none of a list is
pub none_watched : (p : ℕ → Bool) → ((address : ℕ) → p address ≡ false) → (xs : List ℕ) → list_any p xs ≡ false
none_watched p none [] = refl
none_watched p none (x ∷ xs) = ap (λ (b : Bool). b || list_any p xs) (none x) ∙ none_watched p none xs

-- where none of three bytes of code is watched, none of an instruction's code is
module _ (p : ℕ → Bool) (pc : ℕ) (fits : pc < 65536) (un : IsCodeUnwatched p pc) where
  first : p pc ≡ false
  first = let here : pc ≡ address_after pc 0 = omega (arith, fits) in ap p here ∙ un 0 (omega arith)

  opcode_unwatched : list_any p (pc ∷ []) ≡ false
  opcode_unwatched = ap (λ (b : Bool). b || false) first

  byte_unwatched : list_any p (pc ∷ address_after pc 1 ∷ []) ≡ false
  byte_unwatched = ap (λ (b : Bool). b || list_any p (address_after pc 1 ∷ [])) first ∙ ap (λ (b : Bool). b || false) (un 1 (omega arith))

  word_unwatched : list_any p (pc ∷ address_after pc 1 ∷ address_after pc 2 ∷ []) ≡ false
  word_unwatched =
      ap (λ (b : Bool). b || list_any p (address_after pc 1 ∷ address_after pc 2 ∷ [])) first
      ∙ ap (λ (b : Bool). b || list_any p (address_after pc 2 ∷ [])) (un 1 (omega arith)) ∙ ap (λ (b : Bool). b || false) (un 2 (omega arith))

  pub code_unwatched : (mode : Mode) → list_any p (code_addresses mode pc) ≡ false
  code_unwatched mode.Implied = opcode_unwatched
  code_unwatched mode.Accumulator = opcode_unwatched
  code_unwatched mode.Immediate = byte_unwatched
  code_unwatched mode.ZeroPage = byte_unwatched
  code_unwatched mode.ZeroPageX = byte_unwatched
  code_unwatched mode.ZeroPageY = byte_unwatched
  code_unwatched mode.Relative = byte_unwatched
  code_unwatched mode.Absolute = word_unwatched
  code_unwatched mode.AbsoluteX = word_unwatched
  code_unwatched mode.AbsoluteY = word_unwatched
  code_unwatched mode.Indirect = word_unwatched
  code_unwatched mode.IndexedIndirect = byte_unwatched
  code_unwatched mode.IndirectIndexed = byte_unwatched
  code_unwatched mode.Vector = opcode_unwatched

module _ (p : ℕ → Bool) (r : Regs) (m : ℕ → ℕ) where
  -- the code, the pointer, and what is loaded
  pub any_of : (o : Op) (mode : Mode) → list_any p (addresses_of o mode r m)
      ≡ ((list_any p (code_addresses mode r.pc) || list_any p (pointing_addresses mode r m)) || list_any p (read_addresses o (operand_of_mode mode r m) r))
  any_of o mode =
      list_any-append p (r.pc ∷ finding_addresses mode r m) (read_addresses o (operand_of_mode mode r m) r)
      ∙ ap (λ xs. list_any p xs || list_any p (read_addresses o (operand_of_mode mode r m) r)) (sym (parts mode r m))
      ∙ ap (λ (b : Bool). b || list_any p (read_addresses o (operand_of_mode mode r m) r)) (list_any-append p (code_addresses mode r.pc) (pointing_addresses mode r m))

  any_of_row : (o : Option Row) (i : Instruction) → option_map instruction_in o ≡ Some i → list_any p (addresses_of_row o r m) ≡ list_any p (addresses_of i.op i.mode r m)
  any_of_row None i e = cc
  any_of_row (Some row) i e = ap (λ (q : Option Instruction). list_any p (addresses_of (unwrap_or q i).op (unwrap_or q i).mode r m)) e

  pub any_read-documented : (opcode : ℕ) (i : Instruction) → opcode ≡ m r.pc → instruction_of opcode ≡ Some i → list_any p (addresses_read r m) ≡ list_any p (addresses_of i.op i.mode r m)
  unfolding instruction_of addresses_read
  any_read-documented opcode i is e = rw (← is) (any_of_row (row_of opcode) i e)

  any_of_no_row : (o : Option Row) → option_map instruction_in o ≡ None → list_any p (addresses_of_row o r m) ≡ p r.pc
  any_of_no_row None e = or-false (p r.pc)
  any_of_no_row (Some row) e = cc

  pub any_read-undocumented : (opcode : ℕ) → opcode ≡ m r.pc → instruction_of opcode ≡ None → list_any p (addresses_read r m) ≡ p r.pc
  unfolding instruction_of addresses_read
  any_read-undocumented opcode is e = rw (← is) (any_of_no_row (row_of opcode) e)
