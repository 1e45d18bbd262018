use Rattle.std.proofs.Common.{◌∙◌, ap, sym, arith}
use Rattle.vcs_tia.specs.declared.chip.Sync.{Sync}
use Rattle.vcs_tia.proofs.Later.{sync-after_clocks}
use Rattle.vcs_machine.specs.Inside.Console.{content_of, clocks_of}
use Rattle.vcs_machine.proofs.Lagging.{after_wait-none}
use Rattle.vcs_machine.proofs.bus.ConsoleBus.wait_if_due.Goals as goal

pub returns-else-self-ge-END-clause-content : goal.returns-else-self-ge-END-clause-content
returns-else-self-ge-END-clause-content g c =
    let b = c.args.self.now in
    let still = b.still (omega (arith, c.if-self-ge-END.false)) in
    sym (after_wait-none g.O.Observer.observe g.met.O.Observer.observe_nil g.met.O.Observer.observe_append
    (content_of b)
    (ap (λ (s : Sync). s.wait_owed) (sync-after_clocks (clocks_of b) b.tia.now) ∙ still.waits))
