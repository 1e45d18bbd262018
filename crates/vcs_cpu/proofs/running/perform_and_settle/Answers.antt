use Rattle.std.proofs.Common.{◌≡◌, ◌∙◌, sym, refl, false}
use Rattle.vcs_cpu.specs.Runs.{Settling, SettlesBy}
use Rattle.vcs_cpu.proofs.Watching.{any_read-documented}
use Rattle.vcs_cpu.proofs.RunLemmas.{leads_on, settled_end, stopped_end}
use Rattle.vcs_cpu.proofs.running.perform_and_settle.Goals as goal

pub returns-then-reads_watched : goal.returns-then-reads_watched
returns-then-reads_watched g c =
    let none = c.requires.next.going in
    let r = c.args.regs.now in
    let b = c.args.bus.now in
    let before = g.B.Bus.content b in
    record {
      ends = λ s most e over settles ends.
          stopped_end g.B.Bus.device s most r before e _ none
          (settles.stops b r ∙ any_read-documented (g.B.Watch.is_watched b) r (g.B.Bus.device.byte_at before) c.args.opcode _ c.requires.next.is_opcode c.requires.row
          ∙ sym c.reads_watched.ensures ∙ c.if-reads_watched.true) ends;
      goes_on = λ s most on settles. cc;
      going = λ on. cc;
      ready = λ on. cc;
      fixed = refl;
    }

pub returns : goal.returns
returns g c =
    let none = c.requires.next.going in
    let r = c.args.regs.now in
    let b = c.args.bus.now in
    let before = g.B.Bus.content b in
    let goes : (s : Settling g.B.Bus.Content) → SettlesBy g.B.Bus.device g.B.Bus.content g.B.Settle.Settles g.B.Watch.is_watched s → s.stops r before ≡ false = λ s settles.
    settles.stops b r ∙ any_read-documented (g.B.Watch.is_watched b) r (g.B.Bus.device.byte_at before) c.args.opcode _ c.requires.next.is_opcode c.requires.row
    ∙ sym c.reads_watched.ensures ∙ c.if-reads_watched.false in
    record {
      ends = λ s most e over settles ends.
          let is = settles.settles _ _ _ c.settle.ensures.settled in
          settled_end g.B.Bus.device s most _ _ _ _ _ _ e _ none (goes s settles) c.perform.ensures.done is.0 (sym over ∙ is.1) ends;
      goes_on = λ s most on settles.
          let is = settles.settles _ _ _ c.settle.ensures.settled in
          leads_on g.B.Bus.device s most _ _ _ _ _ _ (goes s settles) c.perform.ensures.done is.0 (sym on ∙ is.1);
      going = λ on. none;
      ready = c.settle.ensures.ready;
      fixed = c.settle.ensures.fixed ∙ c.perform.ensures.fixed;
    }
