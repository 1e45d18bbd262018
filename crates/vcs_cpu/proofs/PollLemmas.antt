-- Polls in a run.
use Rattle.std.proofs.Common.{◌≡◌, ℕ, zero, suc, ◌+◌, ◌/◌, ◌==◌, ◌<◌, ◌∙◌, ◌||◌, not, ap, sym, refl, Bool, true, false, Ok, Some, if◌then◌else◌, arith}
use Rattle.std.specs.List.{list_any}
use Rattle.vcs_cpu.specs.declared.regs.Regs.{Regs}
use Rattle.vcs_cpu.specs.declared.bus.Poll.{Poll}
use Rattle.vcs_cpu.specs.declared.opcode.Instruction.{Instruction}
use Rattle.vcs_cpu.specs.declared.op.Op.TheVariants as op
use Rattle.vcs_cpu.specs.declared.op.Read.TheVariants.{Lda}
use Rattle.vcs_cpu.specs.declared.op.Branch.TheVariants.{Beq, Bne}
use Rattle.vcs_cpu.specs.declared.op.Mode.TheVariants as mode
use Rattle.vcs_cpu.specs.Status.{bit}
use Rattle.vcs_cpu.specs.Device.{Device}
use Rattle.vcs_cpu.specs.Rows.{row_of, instruction_of}
use Rattle.vcs_cpu.specs.Operands.{address_after, operand_word_at, word_from, branch_target}
use Rattle.vcs_cpu.specs.Effects.{after_load_a, with_pc}
use Rattle.vcs_cpu.specs.Steps.{Step, step_of}
use Rattle.vcs_cpu.specs.Reads.{addresses_of, addresses_read}
use Rattle.vcs_cpu.specs.Runs.{Settling, SettlesBy}
use Rattle.vcs_cpu.specs.Inside.Leading.{Leads}
use Rattle.vcs_cpu.specs.Polls.{Rests, IsPoll, IsPollUnwatched, polled_byte, after_poll_read, after_poll, after_polls}
use Rattle.vcs_cpu.proofs.Stepping.{step_of-documented}
use Rattle.vcs_cpu.proofs.Watching.{any_read-documented}
use Rattle.vcs_cpu.proofs.RunLemmas.{leads_on, leads_further}

-- the poll at a program counter
abbrev pub poll_at : Regs → ℕ → ℕ → Bool → Poll
poll_at r address branch while_zero = record { pc = r.pc; address = address; branch = branch; while_zero = while_zero }

module _ {Content : Type 0} (d : Device Content) where
  -- the bytes of a poll's code
  pub record ShowsPoll (c : Content) (pc address : ℕ) (while_zero : Bool) : Type 0 where
    pub fits : pc < 65536
    pub lda : d.byte_at c pc ≡ 0xAD
    pub word : operand_word_at pc (d.byte_at c) ≡ address
    pub branch : d.byte_at c (address_after pc 3) ≡ (if while_zero then 0xF0 else 0xD0)
    pub back : d.byte_at c (address_after pc 4) ≡ 0xFB

  -- the LDA of a poll
  lda-step : (r : Regs) (c : Content) (address branch : ℕ) (while_zero : Bool) → d.byte_at c r.pc ≡ 0xAD → operand_word_at r.pc (d.byte_at c) ≡ address →
      step_of d r c ≡ Ok (record {
        regs = after_load_a (record r { pc = address_after r.pc 3 }) (polled_byte d (poll_at r address branch while_zero) c);
        content = after_poll_read d (poll_at r address branch while_zero) c;
        cycles = 4;
      })
  unfolding instruction_of row_of
  lda-step r c address branch while_zero code word =
      step_of-documented d r c 0xAD (op.Read Lda) mode.Absolute 4 false (sym code) refl
      ∙ ap (λ a. Ok (record {
        regs = after_load_a (record r { pc = address_after r.pc 3 }) (d.byte_at (d.after_advance c 4) a);
        content = d.after_load (d.after_advance c 4) a;
        cycles = 4;
      })) word

  -- a branch, by what it comes to
  abbrev branch_step : Regs → Content → Bool → Bool → ℕ → Step Content
  branch_step r c taken crossed target =
      let next = record r { pc = address_after r.pc 2 } in
      let time = 2 + (if taken then 1 + bit crossed else 0) in
      record { regs = if taken then with_pc next target else next; content = d.after_advance c time; cycles = time }

  -- one that is taken and goes back to the poll's LDA
  back-step : (r : Regs) (c : Content) (pc branch : ℕ) (taken : Bool) → pc < 65536 → r.pc ≡ address_after pc 3 → d.byte_at c (address_after pc 4) ≡ 0xFB →
      taken ≡ true → branch ≡ 3 + bit (not (pc / 256 == address_after pc 5 / 256)) →
      branch_step r c taken (not (branch_target (address_after r.pc 2) (d.byte_at c (address_after r.pc 1)) / 256 == address_after r.pc 2 / 256))
      (branch_target (address_after r.pc 2) (d.byte_at c (address_after r.pc 1)))
      ≡ record { regs = with_pc r pc; content = d.after_advance c branch; cycles = branch }
  back-step r c pc branch taken fits at back some time =
      let there : address_after r.pc 1 ≡ address_after pc 4 = omega (arith, at, fits) in
      let next : address_after r.pc 2 ≡ address_after pc 5 = omega (arith, at, fits) in
      let home : address_after (address_after r.pc 2) 65531 ≡ pc = omega (arith, at, fits) in
      let byte = ap (λ a. d.byte_at c a) there ∙ back in
      let target = ap (λ n. branch_target (address_after r.pc 2) n) byte ∙ home in
      let all : 2 + (1 + bit (not (pc / 256 == address_after pc 5 / 256))) ≡ branch = omega (arith, time) in
      ap (λ t. branch_step r c t (not (branch_target (address_after r.pc 2) (d.byte_at c (address_after r.pc 1)) / 256 == address_after r.pc 2 / 256))
      (branch_target (address_after r.pc 2) (d.byte_at c (address_after r.pc 1)))) some
      ∙ ap (λ t. branch_step r c true (not (t / 256 == address_after r.pc 2 / 256)) t) target
      ∙ ap (λ n. branch_step r c true (not (pc / 256 == n / 256)) pc) next
      ∙ ap (λ n. record { regs = with_pc r pc; content = d.after_advance c n; cycles = n }) all

  -- the branch of a poll, which goes back to its LDA
  poll_branch-step : (r : Regs) (c : Content) (pc branch : ℕ) (while_zero : Bool) → pc < 65536 → r.pc ≡ address_after pc 3 →
      d.byte_at c (address_after pc 3) ≡ (if while_zero then 0xF0 else 0xD0) → d.byte_at c (address_after pc 4) ≡ 0xFB →
      r.z ≡ while_zero → branch ≡ 3 + bit (not (pc / 256 == address_after pc 5 / 256)) →
      step_of d r c ≡ Ok (record { regs = with_pc r pc; content = d.after_advance c branch; cycles = branch })
  unfolding instruction_of row_of
  poll_branch-step r c pc branch true fits at code back none time =
      step_of-documented d r c 0xF0 (op.Branch Beq) mode.Relative 2 false (sym (ap (λ a. d.byte_at c a) at ∙ code)) refl
      ∙ ap (λ s. Ok s) (back-step r c pc branch r.z fits at back none time)
  poll_branch-step r c pc branch false fits at code back some time =
      step_of-documented d r c 0xD0 (op.Branch Bne) mode.Relative 2 false (sym (ap (λ a. d.byte_at c a) at ∙ code)) refl
      ∙ ap (λ s. Ok s) (back-step r c pc branch (not r.z) fits at back (ap not some) time)

  -- the registers after n polls
  abbrev pub regs_after : Regs → ℕ → ℕ → Bool → ℕ → Content → Regs
  regs_after r address branch while_zero zero c = r
  regs_after r address branch while_zero (suc n) c = regs_after (after_load_a r (polled_byte d (poll_at r address branch while_zero) c)) address branch while_zero n (after_poll d (poll_at r address branch while_zero) c)

  -- the last poll's byte is the accumulator's
  pub regs_after-last : (n : ℕ) (r : Regs) (c : Content) (address branch : ℕ) (while_zero : Bool) →
      regs_after r address branch while_zero (suc n) c ≡ after_load_a r (polled_byte d (poll_at r address branch while_zero) (after_polls d (poll_at r address branch while_zero) n c))
  regs_after-last zero r c address branch while_zero = refl
  regs_after-last (suc n) r c address branch while_zero =
      regs_after-last n (after_load_a r (polled_byte d (poll_at r address branch while_zero) c)) (after_poll d (poll_at r address branch while_zero) c) address branch while_zero

neither : (u v : Bool) → u ≡ false → v ≡ false → (u || v) ≡ false
neither u v first second = ap (λ w. w || v) first ∙ second

module _ {Bus Content : Type 0} (d : Device Content) (content_of : Bus → Content) (Settles : Bus → Bus → Bool → Type 0) (is_watched : Bus → ℕ → Bool) (s : Settling Content)
    (settles : SettlesBy d content_of Settles is_watched s) (most : ℕ) where
  -- a run stops before an instruction by the addresses that it reads
  stops_by : (bus : Bus) (r : Regs) (c : Content) (opcode : ℕ) (i : Instruction) → content_of bus ≡ c → d.byte_at c r.pc ≡ opcode → instruction_of opcode ≡ Some i →
      s.stops r c ≡ list_any (is_watched bus) (addresses_of i.op i.mode r (d.byte_at c))
  stops_by bus r c opcode i same code row =
      ap (s.stops r) (sym same) ∙ settles.stops bus r ∙ ap (λ x. list_any (is_watched bus) (addresses_read r (d.byte_at x))) same
      ∙ any_read-documented (is_watched bus) r (d.byte_at c) opcode i (sym code) row

  -- it doesn't stop before a poll's LDA
  lda-goes : (bus : Bus) (r : Regs) (c : Content) (address branch : ℕ) (while_zero : Bool) → content_of bus ≡ c → r.pc < 65536 → d.byte_at c r.pc ≡ 0xAD → operand_word_at r.pc (d.byte_at c) ≡ address →
      IsPollUnwatched (poll_at r address branch while_zero) (is_watched bus) → s.stops r c ≡ false
  unfolding instruction_of row_of
  lda-goes bus r c address branch while_zero same fits code word un =
      let p = is_watched bus in
      let here : r.pc ≡ address_after r.pc 0 = omega (arith, fits) in
      stops_by bus r c 0xAD (record { op = op.Read Lda; mode = mode.Absolute; cycles = 4; crossing = false }) same code refl
      ∙ neither (p r.pc) _ (ap p here ∙ un.code 0 (omega arith)) (neither (p (address_after r.pc 1)) _ (un.code 1 (omega arith))
      (neither (p (address_after r.pc 2)) _ (un.code 2 (omega arith)) (neither (p (operand_word_at r.pc (d.byte_at c))) false (ap p word ∙ un.byte) refl)))

  -- nor before its branch
  branch-goes : (bus : Bus) (r : Regs) (c : Content) (pc address branch : ℕ) (while_zero : Bool) → content_of bus ≡ c → r.pc ≡ address_after pc 3 → pc < 65536 →
      d.byte_at c (address_after pc 3) ≡ (if while_zero then 0xF0 else 0xD0) →
      IsPollUnwatched (record { pc = pc; address = address; branch = branch; while_zero = while_zero }) (is_watched bus) → s.stops r c ≡ false
  unfolding instruction_of row_of
  branch-goes bus r c pc address branch true same at fits code un =
      let p = is_watched bus in
      let next : address_after r.pc 1 ≡ address_after pc 4 = omega (arith, at, fits) in
      stops_by bus r c 0xF0 (record { op = op.Branch Beq; mode = mode.Relative; cycles = 2; crossing = false }) same (ap (d.byte_at c) at ∙ code) refl
      ∙ neither (p r.pc) _ (ap p at ∙ un.code 3 (omega arith)) (neither (p (address_after r.pc 1)) false (ap p next ∙ un.code 4 (omega arith)) refl)
  branch-goes bus r c pc address branch false same at fits code un =
      let p = is_watched bus in
      let next : address_after r.pc 1 ≡ address_after pc 4 = omega (arith, at, fits) in
      stops_by bus r c 0xD0 (record { op = op.Branch Bne; mode = mode.Relative; cycles = 2; crossing = false }) same (ap (d.byte_at c) at ∙ code) refl
      ∙ neither (p r.pc) _ (ap p at ∙ un.code 3 (omega arith)) (neither (p (address_after r.pc 1)) false (ap p next ∙ un.code 4 (omega arith)) refl)

  -- an instruction after which the bus rests
  leads_to_rest : (r q : Regs) (c x : Content) (time : ℕ) → s.stops r c ≡ false → step_of d r c ≡ Ok (record { regs = q; content = x; cycles = time }) → Rests d content_of Settles x → Leads d s most r c q x
  leads_to_rest r q c x time going stepped at =
      let is = settles.settles at.bus at.bus false at.settles in
      leads_on d s most r q c x x time going stepped (sym at.is ∙ is.0 ∙ ap s.after at.is) (is.1 ∙ ap s.is_over at.is)

  -- one poll
  leads_past_one : (r : Regs) (start c : Content) (address branch : ℕ) (while_zero : Bool) (bus : Bus) → content_of bus ≡ c →
      ((other : Bus) → IsPollUnwatched (poll_at r address branch while_zero) (is_watched other)) →
      ShowsPoll d start r.pc address while_zero → branch ≡ 3 + bit (not (r.pc / 256 == address_after r.pc 5 / 256)) →
      IsPoll d content_of Settles (poll_at r address branch while_zero) start c →
      Leads d s most r c (after_load_a r (polled_byte d (poll_at r address branch while_zero) c)) (after_poll d (poll_at r address branch while_zero) c)
  leads_past_one r start c address branch while_zero bus same un code time is =
      let poll = poll_at r address branch while_zero in
      let v = polled_byte d poll c in
      let fits = code.fits in
      let here : address_after r.pc 0 ≡ r.pc = omega (arith, fits) in
      let lda = ap (λ a. d.byte_at c a) (sym here) ∙ is.lda 0 (omega arith) ∙ ap (λ a. d.byte_at start a) here ∙ code.lda in
      let word = ap (λ n. word_from n (d.byte_at c (address_after r.pc 2))) (is.lda 1 (omega arith)) ∙ ap (λ n. word_from (d.byte_at start (address_after r.pc 1)) n) (is.lda 2 (omega arith)) ∙ code.word in
      let loaded = after_load_a (record r { pc = address_after r.pc 3 }) v in
      let read = is.read in
      leads_further d s most r loaded _ c (after_poll_read d poll c) _
      (leads_to_rest r _ c _ 4 (lda-goes bus r c address branch while_zero same fits lda word (un bus)) (lda-step d r c address branch while_zero lda word) is.read)
      (leads_to_rest loaded _ (after_poll_read d poll c) _ branch
      (branch-goes read.bus loaded (after_poll_read d poll c) r.pc address branch while_zero read.is refl fits (is.back 3 (omega arith) ∙ code.branch) (un read.bus))
      (poll_branch-step d loaded (after_poll_read d poll c) r.pc branch while_zero fits refl (is.back 3 (omega arith) ∙ code.branch) (is.back 4 (omega arith) ∙ code.back) is.taken time)
      is.branch)

  -- polls, of which there are one more than n
  pub leads_past : (n : ℕ) (r : Regs) (start c : Content) (address branch : ℕ) (while_zero : Bool) (bus : Bus) → content_of bus ≡ c →
      ((other : Bus) → IsPollUnwatched (poll_at r address branch while_zero) (is_watched other)) →
      ShowsPoll d start r.pc address while_zero → branch ≡ 3 + bit (not (r.pc / 256 == address_after r.pc 5 / 256)) →
      ((i : ℕ) → i < suc n → IsPoll d content_of Settles (poll_at r address branch while_zero) start (after_polls d (poll_at r address branch while_zero) i c)) →
      Leads d s most r c (regs_after d r address branch while_zero (suc n) c) (after_polls d (poll_at r address branch while_zero) (suc n) c)
  leads_past zero r start c address branch while_zero bus same un code time polls = leads_past_one r start c address branch while_zero bus same un code time (polls 0 (omega arith))
  leads_past (suc n) r start c address branch while_zero bus same un code time polls =
      let poll = poll_at r address branch while_zero in
      let q = after_load_a r (polled_byte d poll c) in
      let first = polls 0 (omega arith) in
      let rest = first.branch in
      leads_further d s most r q _ c (after_poll d poll c) _ (leads_past_one r start c address branch while_zero bus same un code time first)
      (leads_past n q start (after_poll d poll c) address branch while_zero rest.bus rest.is un code time (λ i h. polls (suc i) (omega (arith, h))))
