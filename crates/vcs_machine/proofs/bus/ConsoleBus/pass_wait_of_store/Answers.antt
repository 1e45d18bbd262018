use Rattle.std.proofs.Common.{refl, arith}
use Rattle.std.proofs.lemmas.Grind.{common_steps}
use Rattle.vcs_machine.proofs.BusTime.{first}
use Rattle.vcs_machine.proofs.Storing.{stored_at_once}
use Rattle.vcs_machine.proofs.bus.ConsoleBus.pass_wait_of_store.Goals as goal

pub after_wait-self-requires-clause-first : goal.after_wait-self-requires-clause-first
after_wait-self-requires-clause-first g c =
    let b = c.args.self.now in
    let none = c.requires.offset in
    omega (arith, first b, b.tia_past, none)

pub invariant_of-self : goal.invariant_of-self
invariant_of-self g c =
    let b = c.args.self.now in
    let after = c.after_wait-self.ensures in
    let none = c.requires.offset in
    let low = c.requires.low in
    let most = c.requires.most in
    record {
      rom_size = b.rom_size;
      start_is = b.start_is;
      sides_is = b.sides_is;
      riot_past = omega (arith, b.riot_past, after.next);
      riot_first = b.riot_first;
      tia_past = omega (arith, b.tia_past, after.next);
      beam = b.beam;
      clock = b.clock;
      few = b.few;
      low = omega (arith, none, low, most, after.near);
      still = λ h. b.still low;
    }

pub returns-clause-settled : goal.returns-clause-settled
returns-clause-settled g c = λ value.
    let after = c.after_wait-self.ensures in
    stored_at_once g.met.O.Observer.observe_nil g.met.O.Observer.observe_append g.met.O.Observer.observe_alike c.args.self.now c.args.cycles value c.requires.offset c.requires.low c.requires.most
    _ c.after_wait-self.result _ after.next after.near (after.start refl) refl refl

pub returns-clause-low : goal.returns-clause-low
returns-clause-low g c = grind (arith, common_steps)
