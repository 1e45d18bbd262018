use Rattle.std.proofs.Common.{arith}
use Rattle.vcs_machine.specs.Inside.Console.{ticks_of, clocks_of}
use Rattle.vcs_machine.proofs.Lagging.{lagging-same}
use Rattle.vcs_machine.proofs.BusTime.{first}
use Rattle.vcs_machine.proofs.bus.ConsoleBus.ask_to_settle.Goals as goal

pub returns-clause-due : goal.returns-clause-due
returns-clause-due g c = let b = c.args.self.now in omega (arith, first b, b.tia_past, b.few)

pub returns-clause-content : goal.returns-clause-content
returns-clause-content g c =
    let b = c.args.self.now in
    lagging-same g.O.Observer.observe g.met.O.Observer.observe_nil g.met.O.Observer.observe_append b.rom.now b.pins b.riot.now b.tia.now (g.O.Observer.seen b.observer.now) _ _ (ticks_of b) (clocks_of b) (omega (arith, b.few, b.riot_past)) (omega (arith, b.few, b.tia_past))

pub invariant_of-self : goal.invariant_of-self
invariant_of-self g c =
    let b = c.args.self.now in
    record {
      rom_size = b.rom_size;
      start_is = b.start_is;
      sides_is = b.sides_is;
      riot_past = omega (arith, b.few, b.riot_past);
      riot_first = b.riot_first;
      tia_past = omega (arith, b.few, b.tia_past);
      beam = b.beam;
      clock = b.clock;
      few = omega arith;
      low = omega (arith, b.few, b.low);
      still = λ h. absurd (omega (arith, h, first b, b.tia_past, b.few));
    }
