use Rattle.std.proofs.Common.{◌≡◌, ◌∙◌, ap, sym, subst, refl, arith}
use Rattle.vcs_cpu.specs.declared.regs.Regs.{Regs}
use Rattle.vcs_cpu.specs.Operands.{IsCode}
use Rattle.vcs_cpu.specs.Rows.{row_of, instruction_of}
use Rattle.vcs_cpu.specs.Inside.Leading.{Leads}
use Rattle.vcs_cpu.proofs.RunLemmas.{led_from-same}
use Rattle.vcs_cpu.proofs.polls.go_on_by_load.Goals as goal

pub perform_and_settle-requires : goal.perform_and_settle-requires
unfolding instruction_of row_of
perform_and_settle-requires g c =
    let none : c.pass_polls-polls.result.0 ≡ 0 = omega (arith, c.if-polls-gt0.false) in
    let same = sym (c.pass_polls-polls.ensures.none none) in
    record {
      next = record {
        is_opcode = c.requires.next.is_opcode ∙ ap (λ (o : g.B.Bus.Content). g.B.Bus.device.byte_at o c.args.regs.now.pc) same;
        is_code = subst (λ (o : g.B.Bus.Content). IsCode c.args.code c.args.regs.now.pc (g.B.Bus.device.byte_at o)) same c.requires.next.is_code;
        ready = c.pass_polls-polls.ensures.ready;
        going = c.requires.next.going;
      };
      row = ap instruction_of c.requires.lda;
    }

pub returns-then-polls-gt0 : goal.returns-then-polls-gt0
returns-then-polls-gt0 g c =
    let some = c.if-polls-gt0.true in
    let passed = c.pass_polls-polls.ensures in
    record {
      ends = λ s most e over settles ends. cc;
      goes_on = λ s most on settles. subst (λ (q : Regs). Leads g.B.Bus.device s most c.args.regs.now (g.B.Bus.content c.args.bus.now) q (g.B.Bus.content c.pass_polls-polls.new.bus)) (sym c.load_a.ensures) (passed.some s most c.args.regs.now refl some settles);
      going = λ on. c.requires.next.going;
      ready = λ on. passed.ready;
      fixed = passed.fixed;
    }

pub returns : goal.returns
returns g c =
    let none : c.pass_polls-polls.result.0 ≡ 0 = omega (arith, c.if-polls-gt0.false) in
    let passed = c.pass_polls-polls.ensures in
    led_from-same g.B.Bus.device g.B.Bus.content g.B.Settle.Settles g.B.Watch.is_watched g.B.Settle.Ready g.B.Bus.fixed _ _ _ _ _ _ _ (passed.none none) passed.fixed c.perform_and_settle.ensures
