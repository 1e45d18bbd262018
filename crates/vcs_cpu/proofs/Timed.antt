-- An instruction takes two cycles at least, which pass before its reads of operands and its writes.
use Rattle.std.proofs.Common.{rules, ◌≡◌, ◌≤◌, ◌+◌, ◌==◌, ℕ, Bool, true, false, List, [], ◌∷◌, Option, Some, None, Result, Ok, Err, IfSome, refl, ap, subst, arith, cond}
use Rattle.std.specs.List.{find}
use Rattle.vcs_cpu.specs.declared.regs.Regs.{Regs}
use Rattle.vcs_cpu.specs.declared.halt.Halt.{Halt}
use Rattle.vcs_cpu.specs.Device.{Device, after_loads, after_writes}
use Rattle.vcs_cpu.specs.Rows.{Row, row_of, rows}
use Rattle.vcs_cpu.specs.Operands.{address_after, size_of, operand_of_mode}
use Rattle.vcs_cpu.specs.Effects.{read_addresses}
use Rattle.vcs_cpu.specs.Steps.{Step, extra_cycles, effect_on, step_by_row, step_or_halt, step_of}

-- P holds of each row of a list
abbrev EachRow : (Row → Type 0) → List Row → Type 0
EachRow P [] = Unit {0}
EachRow P (r ∷ rs) = P r × EachRow P rs

cond_some : (P : Row → Type 0) (b : Bool) (r : Row) (o : Option Row) → P r → IfSome o P → IfSome (cond b (Some r) o) P
cond_some P true r o p q = p
cond_some P false r o p q = q

found_row : (P : Row → Type 0) (test : Row → Bool) (rs : List Row) → EachRow P rs → IfSome (find test rs) P
found_row P test [] each = tt
found_row P test (r ∷ rs) each = cond_some P (test r) r (find test rs) each.0 (found_row P test rs each.1)

abbrev TakesTwo : Row → Type 0
TakesTwo row = 2 ≤ row.cycles

each_takes_two : EachRow TakesTwo rows
each_takes_two = search rules

row_takes_two : (opcode : ℕ) → IfSome (row_of opcode) TakesTwo
unfolding row_of
row_takes_two opcode = found_row TakesTwo (λ (r : Row). r.opcode == opcode) rows each_takes_two

abbrev step_or : {Content : Type 0} → Result (Step Content) Halt → Step Content → Step Content
step_or (Ok x) other = x
step_or (Err halt) other = other

module _ {Content : Type 0} (d : Device Content) where
  -- a step from a content: its cycles pass there, and reads and writes follow
  abbrev pub Passes : Content → Step Content → Type 0
  Passes content x = (2 ≤ x.cycles) × ((reads : List ℕ) × ((writes : List (ℕ × ℕ))
      × (x.content ≡ after_writes d (after_loads d (d.after_advance content x.cycles) reads) writes)))

  row_passes : (row : Row) (r : Regs) (content : Content) → 2 ≤ row.cycles → Passes content (step_by_row d row r content)
  row_passes row r content least =
      let operand = operand_of_mode row.mode r (d.byte_at content) in
      let time = row.cycles + extra_cycles row.op row.crossing operand r in
      let later = d.after_advance content time in
      let next = record r { pc = address_after r.pc (size_of row.mode) } in
      (omega (arith, least), (read_addresses row.op operand next, ((effect_on d row.op operand next later).writes, refl)))

  step_or_halt-passes : (o : Option Row) (opcode : ℕ) (r : Regs) (content : Content) (x : Step Content) → IfSome o TakesTwo → step_or_halt d o opcode r content ≡ Ok x → Passes content x
  step_or_halt-passes None opcode r content x least e = cc
  step_or_halt-passes (Some row) opcode r content x least e =
      subst (Passes content) (ap (λ (y : Result (Step Content) Halt). step_or y x) e) (row_passes row r content least)

  pub step_of-passes : (r : Regs) (content : Content) (x : Step Content) → step_of d r content ≡ Ok x → Passes content x
  unfolding step_of
  step_of-passes r content x e = step_or_halt-passes (row_of (d.byte_at content r.pc)) (d.byte_at content r.pc) r content x (row_takes_two (d.byte_at content r.pc)) e
