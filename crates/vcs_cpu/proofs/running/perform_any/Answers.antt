use Rattle.std.proofs.Common.{◌≡◌, ◌∙◌, sym, refl, false}
use Rattle.vcs_cpu.specs.Runs.{Settling, SettlesBy}
use Rattle.vcs_cpu.proofs.Stepping.{step_of-undocumented}
use Rattle.vcs_cpu.proofs.Watching.{any_read-undocumented}
use Rattle.vcs_cpu.proofs.RunLemmas.{halted_end, stopped_end}
use Rattle.vcs_cpu.proofs.running.perform_any.Goals as goal

pub returns-then-is_watched : goal.returns-then-is_watched
returns-then-is_watched g c =
    let none = c.requires.going in
    let r = c.args.regs.now in
    let b = c.args.bus.now in
    let before = g.B.Bus.content b in
    record {
      ends = λ s most e over settles ends.
          stopped_end g.B.Bus.device s most r before e _ none
          (settles.stops b r ∙ any_read-undocumented (g.B.Watch.is_watched b) r (g.B.Bus.device.byte_at before) c.args.opcode c.requires.is_opcode (sym c.look_up.ensures.is ∙ c.in_default.is)
          ∙ sym c.is_watched.ensures ∙ c.if-is_watched.true) ends;
      goes_on = λ s most on settles. cc;
      going = λ on. cc;
      ready = λ on. cc;
      fixed = refl;
    }

pub returns-in_default : goal.returns-in_default
returns-in_default g c =
    let d = g.B.Bus.device in
    let r = c.args.regs.now in
    let b = c.args.bus.now in
    let before = g.B.Bus.content b in
    let halts = step_of-undocumented d r before c.args.opcode c.requires.is_opcode (sym c.look_up.ensures.is ∙ c.in_default.is) in
    let goes : (s : Settling g.B.Bus.Content) → SettlesBy d g.B.Bus.content g.B.Settle.Settles g.B.Watch.is_watched s → s.stops r before ≡ false = λ s settles.
    settles.stops b r ∙ any_read-undocumented (g.B.Watch.is_watched b) r (d.byte_at before) c.args.opcode c.requires.is_opcode (sym c.look_up.ensures.is ∙ c.in_default.is)
    ∙ sym c.is_watched.ensures ∙ c.if-is_watched.false in
    record {
      ends = λ s most e over settles ends. halted_end d s most r before e _ (goes s settles) halts ends;
      goes_on = λ s most on settles. cc;
      going = λ on. cc;
      ready = λ on. cc;
      fixed = refl;
    }
