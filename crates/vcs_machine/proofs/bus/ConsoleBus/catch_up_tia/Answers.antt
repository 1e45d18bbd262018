use Rattle.std.proofs.Common.{◌∙◌, ap, arith}
use Rattle.vcs_tia.specs.declared.chip.Tia.{Tia}
use Rattle.vcs_tia.specs.Tia.{clocks_passed, clock_of}
use Rattle.vcs_tia.proofs.Later.{sync-after_clocks}
use Rattle.vcs_tia.proofs.Traces.{clocks_passed-after_clocks}
use Rattle.vcs_machine.specs.Inside.Console.{ticks_of, clocks_of}
use Rattle.vcs_machine.proofs.Endings.{clock-later}
use Rattle.vcs_machine.proofs.Lagging.{lagging-tia_caught_up, still-same}
use Rattle.vcs_machine.proofs.BusTime.{past}
use Rattle.vcs_machine.proofs.bus.ConsoleBus.catch_up_tia.Goals as goal

pub invariant_of-self : goal.invariant_of-self
invariant_of-self g c =
    let b = c.args.self.now in
    let tia = c.pass_clocks.ensures.tia in
    let passed = ap clocks_passed tia ∙ clocks_passed-after_clocks (clocks_of b) b.tia.now in
    let same = ap clock_of tia in
    let below = clock-later (clocks_of b) b.tia.now b.clock in
    record {
      rom_size = b.rom_size;
      start_is = b.start_is;
      sides_is = b.sides_is;
      riot_past = b.riot_past;
      riot_first = b.riot_first;
      tia_past = omega (arith, b.tia_past);
      beam = omega (arith, passed, b.beam, b.tia_past);
      clock = omega (arith, same, below);
      few = b.few;
      low = b.low;
      still = λ h. still-same b.tia.now c.pass_clocks.new.tia (ap (λ (t : Tia). t.sync) tia ∙ sync-after_clocks (clocks_of b) b.tia.now) (b.still h);
    }

pub returns-clause-content : goal.returns-clause-content
returns-clause-content g c =
    let b = c.args.self.now in
    lagging-tia_caught_up g.O.Observer.observe g.met.O.Observer.observe_nil g.met.O.Observer.observe_append b.rom.now b.pins b.riot.now b.tia.now c.pass_clocks.new.tia (g.O.Observer.seen b.observer.now) (g.O.Observer.seen c.pass_clocks.new.observer)
    (ticks_of b) (clocks_of b) _ (omega arith) c.pass_clocks.ensures.tia c.pass_clocks.ensures.seen

pub pass_clocks-requires-clause-few : goal.pass_clocks-requires-clause-few
pass_clocks-requires-clause-few g c = let b = c.args.self.now in omega (arith, past b, b.low, b.tia_past)

pub pass_clocks-requires-clause-room : goal.pass_clocks-requires-clause-room
pass_clocks-requires-clause-room g c = let b = c.args.self.now in omega (arith, past b, b.low, b.tia_past)
