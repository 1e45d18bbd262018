use Rattle.std.proofs.Common.{ap, sym}
use Rattle.vcs_tia.specs.declared.register.Register.{Register}
use Rattle.vcs_tia.specs.Tia.{written}
use Rattle.vcs_tia.proofs.chip.Tia.ask_for_wait.Goals as goal

pub returns : goal.returns
returns c = λ addr value is.
    let t = c.args.self.now in
    sym (ap (λ (r : Register). written r value t.beam.clock t) is)
