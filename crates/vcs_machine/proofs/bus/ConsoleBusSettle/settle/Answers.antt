use Rattle.std.proofs.Common.{◌∙◌, ◌+◌, ◌*◌, ◌<◌, ap, sym, arith}
use Rattle.vcs_tia.specs.declared.chip.Sync.{Sync}
use Rattle.vcs_tia.specs.Tia.{clocks_passed}
use Rattle.vcs_tia.proofs.Later.{sync-after_clocks}
use Rattle.vcs_machine.specs.Inside.Console.{content_of, clocks_of}
use Rattle.vcs_machine.proofs.Clocks.{clocks-instruction}
use Rattle.vcs_machine.proofs.Lagging.{after_wait-none, not_over-early}
use Rattle.vcs_machine.proofs.BusTime.{passed, past}
use Rattle.vcs_machine.proofs.bus.ConsoleBusSettle.settle.Goals as goal

pub settle_chips-requires : goal.settle_chips-requires
settle_chips-requires g c =
    let b = c.args.self.now in
    let r = c.requires in
    let clocks = clocks-instruction g.O.Observer.observe r.cycles r.reads r.writes _ _ r.is in
    omega (arith, clocks, passed b, r.ready.0, r.most)

pub returns-then-self-lt-END-clause-settled : goal.returns-then-self-lt-END-clause-settled
returns-then-self-lt-END-clause-settled g c =
    let b = c.args.self.now in
    let still = b.still (omega (arith, c.if-self-lt-END.true)) in
    let low : clocks_passed b.tia.now + clocks_of b < 320 * 228 = omega (arith, past b, b.tia_past, c.if-self-lt-END.true) in (
      sym (after_wait-none g.O.Observer.observe g.met.O.Observer.observe_nil g.met.O.Observer.observe_append
          (content_of b)
          (ap (λ (s : Sync). s.wait_owed) (sync-after_clocks (clocks_of b) b.tia.now) ∙ still.waits)),
      sym (not_over-early (clocks_of b) b.tia.now still.rose low),
    )

pub returns-then-self-lt-END-clause-ready : goal.returns-then-self-lt-END-clause-ready
returns-then-self-lt-END-clause-ready g c = λ on.
    let b = c.args.self.now in
    (omega (arith, passed b, c.if-self-lt-END.true), λ n few. omega (arith, passed b, c.if-self-lt-END.true, few))

pub returns-clause-settled : goal.returns-clause-settled
returns-clause-settled g c = (c.settle_chips.ensures.content, c.settle_chips.ensures.over)

pub returns-clause-ready : goal.returns-clause-ready
returns-clause-ready g c = λ on.
    let b = c.settle_chips.new.self in
    let low = c.settle_chips.ensures.low on in
    (omega (arith, passed b, low), λ n few. omega (arith, passed b, low, few))
