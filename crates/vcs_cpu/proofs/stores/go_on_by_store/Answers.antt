use Rattle.std.proofs.Common.{◌≡◌, ◌∙◌, ap, sym, refl, false, Ok}
use Rattle.vcs_cpu.specs.declared.regs.Regs.{Regs}
use Rattle.vcs_cpu.specs.declared.op.Op.TheVariants as op
use Rattle.vcs_cpu.specs.declared.op.Mode.TheVariants as mode
use Rattle.vcs_cpu.specs.Runs.{Settling, SettlesBy}
use Rattle.vcs_cpu.specs.Operands.{address_after, operand_byte_at}
use Rattle.vcs_cpu.specs.Steps.{Step, step_of}
use Rattle.vcs_cpu.proofs.Stepping.{step_of-documented}
use Rattle.vcs_cpu.proofs.Watching.{any_read-documented}
use Rattle.vcs_cpu.proofs.RunLemmas.{leads_on, settled_end, stopped_end}
use Rattle.vcs_cpu.proofs.stores.go_on_by_store.Goals as goal

pub returns-then-reads_watched : goal.returns-then-reads_watched
returns-then-reads_watched g c =
    let none = c.requires.next.going in
    let r = c.args.regs.now in
    let b = c.args.bus.now in
    let before = g.B.Bus.content b in
    record {
      ends = λ s most e over settles ends.
          stopped_end g.B.Bus.device s most r before e _ none
          (settles.stops b r ∙ any_read-documented (g.B.Watch.is_watched b) r (g.B.Bus.device.byte_at before) c.args.opcode _ c.requires.next.is_opcode c.requires.row
          ∙ sym c.reads_watched.ensures ∙ c.if-reads_watched.true) ends;
      goes_on = λ s most on settles. cc;
      going = λ on. cc;
      ready = λ on. cc;
      fixed = refl;
    }

pub returns : goal.returns
returns g c =
    let none = c.requires.next.going in
    let r = c.args.regs.now in
    let b = c.args.bus.now in
    let d = g.B.Bus.device in
    let before = g.B.Bus.content b in
    let goes : (s : Settling g.B.Bus.Content) → SettlesBy d g.B.Bus.content g.B.Settle.Settles g.B.Watch.is_watched s → s.stops r before ≡ false = λ s settles.
    settles.stops b r ∙ any_read-documented (g.B.Watch.is_watched b) r (d.byte_at before) c.args.opcode _ c.requires.next.is_opcode c.requires.row
    ∙ sym c.reads_watched.ensures ∙ c.if-reads_watched.false in
    let settled = c.store.ensures.settled in
    let q : Regs = record r { pc = address_after r.pc 2 } in
    let later = d.after_advance before 3 in
    let cell = operand_byte_at r.pc (d.byte_at before) in
    let stored = settled.is ∙ ap (λ a. d.after_poke later a c.stored_byte-value.result) c.operand_byte-address.ensures ∙ ap (λ v. d.after_poke later cell v) c.stored_byte-value.ensures in
    let done : step_of d r before ≡ Ok (record { regs = q; content = g.B.Bus.content settled.bus; cycles = 3 }) =
    step_of-documented d r before c.args.opcode (op.Store c.args.op) mode.ZeroPage 3 false c.requires.next.is_opcode c.requires.row
    ∙ ap (λ (x : g.B.Bus.Content). let t : Step g.B.Bus.Content = record { regs = q; content = x; cycles = 3 } in Ok t) (sym stored) in
    record {
      ends = λ s most e over settles ends.
          let is = settles.settles _ _ _ settled.settles in
          settled_end d s most _ _ _ _ _ _ e _ none (goes s settles) done is.0 (sym over ∙ is.1) ends;
      goes_on = λ s most on settles.
          let is = settles.settles _ _ _ settled.settles in
          leads_on d s most _ _ _ _ _ _ (goes s settles) done is.0 (sym on ∙ is.1);
      going = λ on. none;
      ready = c.store.ensures.ready;
      fixed = c.store.ensures.fixed;
    }
