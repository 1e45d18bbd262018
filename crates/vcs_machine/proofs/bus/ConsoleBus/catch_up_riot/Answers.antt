use Rattle.std.proofs.Common.{◌∙◌, refl, arith}
use Rattle.vcs_machine.specs.Inside.Console.{ticks_of, clocks_of}
use Rattle.vcs_machine.proofs.Lagging.{lagging-caught_up, lagging-same}
use Rattle.vcs_machine.proofs.bus.ConsoleBus.catch_up_riot.Goals as goal

pub returns-clause-content : goal.returns-clause-content
returns-clause-content g c =
    let b = c.args.self.now in
    let seen = g.O.Observer.seen b.observer.now in
    lagging-same g.O.Observer.observe g.met.O.Observer.observe_nil g.met.O.Observer.observe_append b.rom.now b.pins c.pass.new.self b.tia.now seen _ _ 0 (clocks_of b) (omega arith) refl
    ∙ lagging-caught_up g.O.Observer.observe g.met.O.Observer.observe_nil g.met.O.Observer.observe_append b.rom.now b.pins b.riot.now c.pass.new.self b.tia.now seen (ticks_of b) (clocks_of b) c.pass.ensures

pub invariant_of-self : goal.invariant_of-self
invariant_of-self g c =
    let b = c.args.self.now in
    record {
      rom_size = b.rom_size;
      start_is = b.start_is;
      sides_is = b.sides_is;
      riot_past = omega (arith, b.riot_past);
      riot_first = omega (arith, b.riot_past, b.riot_first);
      tia_past = b.tia_past;
      beam = b.beam;
      clock = b.clock;
      few = b.few;
      low = b.low;
      still = b.still;
    }
