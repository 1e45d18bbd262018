-- An instruction on two contents that are alike: where a device's reads, loads, writes and time keep contents alike, so does an instruction
-- that reads at none of the addresses that may tell them apart.
use Rattle.std.proofs.Common.{◌≡◌, ℕ, ◌+◌, ◌%◌, Bool, false, List, [], ◌∷◌, ◌++◌, ◌∙◌, ap, sym, refl, subst, Option, Some, None, Result, Ok, Err}
use Rattle.std.specs.List.{list_any}
use Rattle.std.proofs.lemmas.Bool.{or_parts}
use Rattle.std.proofs.lemmas.List.Folds.{list_any-append}
use Rattle.vcs_cpu.specs.Device.{Device, bytes_loaded, after_loads, after_writes}
use Rattle.vcs_cpu.specs.Rows.{Row, row_of}
use Rattle.vcs_cpu.specs.Operands.{address_after, size_of, operand_of_mode, operand_byte_at, operand_word_at, jump_pointer, zero_page_pointer, word_from, memory_operand, indexed_operand, relative_operand}
use Rattle.vcs_cpu.specs.Effects.{Effect, effect_of, read_addresses}
use Rattle.vcs_cpu.specs.Reads.{addresses_read, addresses_of_row, finding_addresses}
use Rattle.vcs_cpu.specs.Steps.{Step, step_of, step_or_halt, step_by_row, effect_on, content_after, extra_cycles}
use Rattle.vcs_cpu.specs.declared.regs.Regs.{Regs}
use Rattle.vcs_cpu.specs.declared.halt.Halt.{Halt}
use Rattle.vcs_cpu.specs.declared.op.Op.{Op}
use Rattle.vcs_cpu.specs.declared.op.Op.TheVariants as op
use Rattle.vcs_cpu.specs.declared.op.Mode.{Mode}
use Rattle.vcs_cpu.specs.declared.op.Mode.TheVariants as mode
use Rattle.vcs_tia.specs.declared.chip.Tia.{Tia}
use Rattle.vcs_machine.specs.Bus.{Observed, after_wait}
use Rattle.vcs_machine.specs.Step.{with_wait}

-- ---- what finds an operand

-- two memories show the same bytes at these addresses
abbrev ShowSame : (ℕ → ℕ) → (ℕ → ℕ) → List ℕ → Type 0
ShowSame m n [] = Unit {0}
ShowSame m n (a ∷ rest) = (m a ≡ n a) × ShowSame m n rest

-- where they do so at all addresses that a mode reads, it finds the same operand
operand-same : (o : Mode) (r : Regs) (m n : ℕ → ℕ) → ShowSame m n (finding_addresses o r m) → operand_of_mode o r m ≡ operand_of_mode o r n
operand-same mode.Implied r m n h = refl
operand-same mode.Accumulator r m n h = refl
operand-same mode.Immediate r m n h = ap (λ (byte : ℕ). operand_of_mode mode.Immediate r (λ a. byte)) h.0
operand-same mode.ZeroPage r m n h = λ i. memory_operand (h.0 i)
operand-same mode.ZeroPageX r m n h = λ i. memory_operand ((h.0 i + r.x) % 256)
operand-same mode.ZeroPageY r m n h = λ i. memory_operand ((h.0 i + r.y) % 256)
operand-same mode.Relative r m n h = λ i. relative_operand (address_after r.pc 2) (h.0 i)
operand-same mode.Absolute r m n h = λ i. memory_operand (word_from (h.0 i) (h.1.0 i))
operand-same mode.AbsoluteX r m n h = λ i. indexed_operand (word_from (h.0 i) (h.1.0 i)) r.x
operand-same mode.AbsoluteY r m n h = λ i. indexed_operand (word_from (h.0 i) (h.1.0 i)) r.y
operand-same mode.Indirect r m n h =
    let pointed : jump_pointer (operand_word_at r.pc m) m ≡ jump_pointer (operand_word_at r.pc m) n = λ i. word_from (h.1.1.0 i) (h.1.1.1.0 i) in
    ap memory_operand pointed ∙ (λ i. memory_operand (jump_pointer (word_from (h.0 i) (h.1.0 i)) n))
operand-same mode.IndexedIndirect r m n h =
    let cell = (operand_byte_at r.pc m + r.x) % 256 in
    let pointed : zero_page_pointer cell m ≡ zero_page_pointer cell n = λ i. word_from (h.1.0 i) (h.1.1.0 i) in
    ap memory_operand pointed ∙ (λ i. memory_operand (zero_page_pointer ((h.0 i + r.x) % 256) n))
operand-same mode.IndirectIndexed r m n h =
    let cell = operand_byte_at r.pc m in
    let pointed : zero_page_pointer cell m ≡ zero_page_pointer cell n = λ i. word_from (h.1.0 i) (h.1.1.0 i) in
    ap (λ (base : ℕ). indexed_operand base r.y) pointed ∙ (λ i. indexed_operand (zero_page_pointer (h.0 i) n) r.y)
operand-same mode.Vector r m n h = λ i. memory_operand (word_from (h.0 i) (h.1.0 i))

-- what is loaded doesn't depend on the program counter
loads_anywhere : (o : Op) (k : Mode) (m : ℕ → ℕ) (r : Regs) (pc : ℕ) → read_addresses o (operand_of_mode k r m) (record r { pc = pc }) ≡ read_addresses o (operand_of_mode k r m) r
loads_anywhere (op.Read o) k m r pc = refl
loads_anywhere (op.Store o) k m r pc = refl
loads_anywhere (op.Modify o) k m r pc = refl
loads_anywhere (op.Implied o) k m r pc = refl
loads_anywhere (op.Branch o) k m r pc = refl
loads_anywhere op.Brk k m r pc = refl
loads_anywhere op.Jmp k m r pc = refl
loads_anywhere op.Jsr k m r pc = refl
loads_anywhere op.Pha k m r pc = refl
loads_anywhere op.Php k m r pc = refl
loads_anywhere op.Pla k m r pc = refl
loads_anywhere op.Plp k m r pc = refl
loads_anywhere op.Rti k m r pc = refl
loads_anywhere op.Rts k m r pc = refl

module _ {Content : Type 0} (Alike : Content → Content → Type 0) where
  -- two steps to the same registers in the same cycles, with contents that are alike
  pub record AreAlike (a b : Step Content) : Type 0 where
    pub regs : a.regs ≡ b.regs
    pub cycles : a.cycles ≡ b.cycles
    pub content : Alike a.content b.content

  -- two such steps, or the same halt
  abbrev pub EndAlike : Result (Step Content) Halt → Result (Step Content) Halt → Type 0
  EndAlike (Ok a) (Ok b) = AreAlike a b
  EndAlike (Ok a) (Err halt) = ⊥
  EndAlike (Err halt) (Ok b) = ⊥
  EndAlike (Err halt) (Err other) = halt ≡ other

  -- a device, and at which addresses contents that are alike may show different bytes
  module _ (d : Device Content) (tells : Content → ℕ → Bool)
      (reads : (x y : Content) (addr : ℕ) → Alike x y → tells x addr ≡ false → d.byte_at x addr ≡ d.byte_at y addr)
      (loads : (x y : Content) (addr : ℕ) → Alike x y → Alike (d.after_load x addr) (d.after_load y addr))
      (pokes : (x y : Content) (addr v : ℕ) → Alike x y → Alike (d.after_poke x addr v) (d.after_poke y addr v))
      (advances : (x y : Content) (n : ℕ) → Alike x y → Alike (d.after_advance x n) (d.after_advance y n))
      (tells_loaded : (x : Content) (addr : ℕ) → tells (d.after_load x addr) ≡ tells x)
      (tells_later : (x : Content) (n : ℕ) → tells (d.after_advance x n) ≡ tells x) where
    -- none of these addresses tells contents apart
    abbrev NoneTells : Content → List ℕ → Type 0
    NoneTells x addresses = list_any (tells x) addresses ≡ false

    shows-same : (addresses : List ℕ) (x y : Content) → Alike x y → NoneTells x addresses → ShowSame (d.byte_at x) (d.byte_at y) addresses
    shows-same [] x y h none = tt
    shows-same (a ∷ rest) x y h none =
        let parts = or_parts (tells x a) (list_any (tells x) rest) none in
        (reads x y a h parts.0, shows-same rest x y h parts.1)

    bytes-alike : (addresses : List ℕ) (x y : Content) → Alike x y → NoneTells x addresses → bytes_loaded d x addresses ≡ bytes_loaded d y addresses
    bytes-alike [] x y h none = refl
    bytes-alike (a ∷ rest) x y h none =
        let parts = or_parts (tells x a) (list_any (tells x) rest) none in
        ap (λ (byte : ℕ). byte ∷ bytes_loaded d (d.after_load x a) rest) (reads x y a h parts.0)
        ∙ ap (λ (bytes : List ℕ). d.byte_at y a ∷ bytes)
        (bytes-alike rest (d.after_load x a) (d.after_load y a) (loads x y a h) (ap (λ (t : ℕ → Bool). list_any t rest) (tells_loaded x a) ∙ parts.1))

    loads-alike : (addresses : List ℕ) (x y : Content) → Alike x y → Alike (after_loads d x addresses) (after_loads d y addresses)
    loads-alike [] x y h = h
    loads-alike (a ∷ rest) x y h = loads-alike rest (d.after_load x a) (d.after_load y a) (loads x y a h)

    writes-alike : (ws : List (ℕ × ℕ)) (x y : Content) → Alike x y → Alike (after_writes d x ws) (after_writes d y ws)
    writes-alike [] x y h = h
    writes-alike (w ∷ ws) x y h = writes-alike ws (d.after_poke x w.0 w.1) (d.after_poke y w.0 w.1) (pokes x y w.0 w.1 h)

    -- an instruction whose operand is where the memory m shows it
    abbrev step_with : Row → Regs → (ℕ → ℕ) → Content → Step Content
    step_with row r m content =
        let operand = operand_of_mode row.mode r m in
        let time = row.cycles + extra_cycles row.op row.crossing operand r in
        let later = d.after_advance content time in
        let next = record r { pc = address_after r.pc (size_of row.mode) } in
        record { regs = (effect_on d row.op operand next later).regs; content = content_after d row.op operand next later; cycles = time }

    operand-alike : (row : Row) (r : Regs) (m : ℕ → ℕ) (x y : Content) → Alike x y → NoneTells x (read_addresses row.op (operand_of_mode row.mode r m) r) →
        AreAlike (step_with row r m x) (step_with row r m y)
    operand-alike row r m x y h none =
        let operand = operand_of_mode row.mode r m in
        let time = row.cycles + extra_cycles row.op row.crossing operand r in
        let next = record r { pc = address_after r.pc (size_of row.mode) } in
        let later = advances x y time h in
        let addresses = read_addresses row.op operand next in
        let a = d.after_advance x time in
        let b = d.after_advance y time in
        let unread = ap (λ (t : ℕ → Bool). list_any t addresses) (tells_later x time) ∙ ap (list_any (tells x)) (loads_anywhere row.op row.mode m r next.pc) ∙ none in
        let e = ap (effect_of row.op operand next) (bytes-alike addresses a b later unread) in
        record {
          regs = ap (λ (f : Effect). f.regs) e;
          cycles = refl;
          content = subst (λ (ws : List (ℕ × ℕ)). Alike (content_after d row.op operand next a) (after_writes d (after_loads d b addresses) ws)) (ap (λ (f : Effect). f.writes) e)
              (writes-alike (effect_on d row.op operand next a).writes (after_loads d a addresses) (after_loads d b addresses) (loads-alike addresses a b later));
        }

    -- where two memories lead to the same operand, the instruction is the same
    step_with-same : (row : Row) (r : Regs) (m n : ℕ → ℕ) (y : Content) → operand_of_mode row.mode r m ≡ operand_of_mode row.mode r n → step_with row r m y ≡ step_with row r n y
    step_with-same row r m n y same =
        let next = record r { pc = address_after r.pc (size_of row.mode) } in
        ap (λ operand. record {
          regs = (effect_on d row.op operand next (d.after_advance y (row.cycles + extra_cycles row.op row.crossing operand r))).regs;
          content = content_after d row.op operand next (d.after_advance y (row.cycles + extra_cycles row.op row.crossing operand r));
          cycles = row.cycles + extra_cycles row.op row.crossing operand r;
        }) same

    row-alike : (row : Row) (r : Regs) (x y : Content) → Alike x y → NoneTells x (addresses_of_row (Some row) r (d.byte_at x)) →
        AreAlike (step_by_row d row r x) (step_by_row d row r y)
    row-alike row r x y h none =
        let finding = finding_addresses row.mode r (d.byte_at x) in
        let loading = read_addresses row.op (operand_of_mode row.mode r (d.byte_at x)) r in
        let after = or_parts (tells x r.pc) (list_any (tells x) (finding ++ loading)) none in
        let parts = or_parts (list_any (tells x) finding) (list_any (tells x) loading) (sym (list_any-append (tells x) finding loading) ∙ after.1) in
        subst (λ (s : Step Content). AreAlike (step_by_row d row r x) s)
        (step_with-same row r (d.byte_at x) (d.byte_at y) y (operand-same row.mode r (d.byte_at x) (d.byte_at y) (shows-same finding x y h parts.0)))
        (operand-alike row r (d.byte_at x) x y h parts.1)

    row_or_halt-alike : (p : Option Row) (opcode : ℕ) (r : Regs) (x y : Content) → Alike x y → NoneTells x (addresses_of_row p r (d.byte_at x)) →
        EndAlike (step_or_halt d p opcode r x) (step_or_halt d p opcode r y)
    row_or_halt-alike None opcode r x y h none = refl
    row_or_halt-alike (Some row) opcode r x y h none = row-alike row r x y h none

    opcode_unread : (p : Option Row) (r : Regs) (x : Content) → NoneTells x (addresses_of_row p r (d.byte_at x)) → tells x r.pc ≡ false
    opcode_unread None r x none = (or_parts (tells x r.pc) false none).0
    opcode_unread (Some row) r x none = (or_parts (tells x r.pc) _ none).0

    pub instruction-alike : (r : Regs) (x y : Content) → Alike x y → NoneTells x (addresses_read r (d.byte_at x)) → EndAlike (step_of d r x) (step_of d r y)
    unfolding step_of addresses_read
    instruction-alike r x y h none =
        let found = row_of (d.byte_at x r.pc) in
        subst (λ (opcode : ℕ). EndAlike (step_of d r x) (step_or_halt d (row_of opcode) opcode r y)) (reads x y r.pc h (opcode_unread found r x none))
        (row_or_halt-alike found (d.byte_at x r.pc) r x y h none)

-- where no address tells contents apart, no list of them does
pub none_tells : (addresses : List ℕ) → list_any (λ (addr : ℕ). false) addresses ≡ false
none_tells [] = refl
none_tells (a ∷ rest) = none_tells rest

-- the wait after two instructions that are alike
pub with_wait-alike : {Seen : Type 0} (Alike : Observed Seen → Observed Seen → Type 0) (observe : List Tia → Seen → Seen)
    (waits : (x y : Observed Seen) → Alike x y → Alike (after_wait observe x) (after_wait observe y)) →
    (a b : Result (Step (Observed Seen)) Halt) → EndAlike Alike a b → EndAlike Alike (with_wait observe a) (with_wait observe b)
with_wait-alike Alike observe waits (Ok a) (Ok b) h = record { regs = h.regs; cycles = h.cycles; content = waits a.content b.content h.content }
with_wait-alike Alike observe waits (Ok a) (Err halt) h = absurd h
with_wait-alike Alike observe waits (Err halt) (Ok b) h = absurd h
with_wait-alike Alike observe waits (Err halt) (Err other) h = h
