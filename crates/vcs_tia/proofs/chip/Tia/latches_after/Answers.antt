use Rattle.std.proofs.Common.{◌∙◌, ap, sym}
use Rattle.vcs_tia.specs.declared.beam.Latches.{Latches}
use Rattle.vcs_tia.specs.Tia.{read_at}
use Rattle.vcs_tia.specs.Trace.{after_clocks}
use Rattle.vcs_tia.proofs.Later.{after_clocks-changes, with_clocked}
use Rattle.vcs_tia.proofs.chip.Tia.latches_after.Goals as goal

pub returns : goal.returns
returns c =
    let t = c.args.self.now in
    let n = c.args.clocks in
    let addr = c.args.addr in
    c.read-2.ensures
    ∙ sym (ap (read_at addr) (after_clocks-changes n t)
    ∙ ap (λ (l : Latches). read_at addr (with_clocked t l (after_clocks n t).beam)) (c.may_meet.ensures c.if-may_meet.false))
