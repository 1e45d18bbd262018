use Rattle.std.proofs.Common.{◌≡◌, ℕ, suc, ◌+◌, ◌-◌, ◌/◌, ◌%◌, ◌==◌, ◌∙◌, ap, sym, refl, subst, Bool, true, false, if◌then◌else◌, arith}
use Rattle.vcs_cpu.specs.declared.regs.Regs.{Regs}
use Rattle.vcs_cpu.specs.declared.bus.Poll.{Poll}
use Rattle.vcs_cpu.specs.Operands.{address_after}
use Rattle.vcs_cpu.specs.Polls.{after_polls}
use Rattle.vcs_cpu.specs.Effects.{after_load_a}
use Rattle.vcs_cpu.specs.Inside.Leading.{Leads}
use Rattle.vcs_cpu.proofs.PollLemmas.{poll_at, ShowsPoll, regs_after, regs_after-last, leads_past}
use Rattle.vcs_cpu.proofs.polls.pass_polls_at.Goals as goal

-- the two bytes of a branch that ends a poll
branch_of : (n : ℕ) (while_zero : Bool) → n % 65536 ≡ (if while_zero then 0xfbf0 else 0xfbd0) → n % 256 ≡ (if while_zero then 0xF0 else 0xD0)
branch_of n true h = omega (arith, h)
branch_of n false h = omega (arith, h)

back_of : (n : ℕ) (while_zero : Bool) → n % 65536 ≡ (if while_zero then 0xfbf0 else 0xfbd0) → n / 256 % 256 ≡ 0xFB
back_of n true h = omega (arith, h)
back_of n false h = omega (arith, h)

pub returns-clause-none : goal.returns-clause-none
returns-clause-none g c = λ none.
    let poll : Poll = record { pc = c.args.pc; address = c.operand_word-address.result; branch = c.branch_cycles.result; while_zero = c.fetch-next.result % 256 == 240 } in
    c.pass_polls.ensures.content ∙ ap (λ n. after_polls g.B.Bus.device poll n (g.B.Bus.content c.args.bus.now)) none

pub returns-clause-some : goal.returns-clause-some
returns-clause-some g c = λ s most regs is some settles.
    let d = g.B.Bus.device in
    let r : Regs = record regs { pc = c.args.pc } in
    let same : r ≡ regs = ap (λ (p : ℕ). record regs { pc = p }) (sym is) in
    let before = g.B.Bus.content c.args.bus.now in
    let address = c.operand_word-address.result in
    let branch = c.branch_cycles.result in
    let while_zero = c.fetch-next.result % 256 == 240 in
    let passed = c.pass_polls.ensures in
    let polls = c.pass_polls.result.0 in
    let next = c.ends_poll.ensures c.if-not-ends_poll.false in
    let fits = c.branch_cycles.ensures.address in
    let there : address_after (address_after r.pc 3) 1 ≡ address_after r.pc 4 = omega (arith, fits) in
    let code : ShowsPoll d before r.pc address while_zero = record {
      fits = fits;
      lda = c.requires.lda;
      word = sym c.operand_word-address.ensures;
      branch = sym c.fetch-next.ensures.opcode ∙ branch_of _ while_zero next;
      back = ap (λ a. d.byte_at before a) (sym there) ∙ sym c.fetch-next.ensures.low ∙ back_of _ while_zero next;
    } in
    let last : polls ≡ polls - 1 + 1 = omega (arith, some) in
    let more : suc (polls - 1) ≡ polls = omega (arith, some) in
    let byte = passed.byte (polls - 1) last in
    let loaded = ap (λ v. after_load_a r v) byte ∙ sym (regs_after-last d (polls - 1) r before address branch while_zero) in
    let content = passed.content ∙ ap (λ n. after_polls d (poll_at r address branch while_zero) n before) (sym more) in
    subst (λ (q : Regs). Leads d s most q before (after_load_a q c.pass_polls.result.1) (g.B.Bus.content c.pass_polls.new.self)) same
    (subst (λ (q : Regs). Leads d s most r before q (g.B.Bus.content c.pass_polls.new.self)) (sym loaded)
    (subst (λ x. Leads d s most r before (regs_after d r address branch while_zero (suc (polls - 1)) before) x) (sym content)
    (leads_past d g.B.Bus.content g.B.Settle.Settles g.B.Watch.is_watched s settles most (polls - 1) r before before address branch while_zero c.args.bus.now refl (passed.unwatched some) code c.branch_cycles.ensures.value
    (λ i few. passed.polls i (omega (arith, few, more))))))
