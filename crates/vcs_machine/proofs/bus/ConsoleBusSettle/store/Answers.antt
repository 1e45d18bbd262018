use Rattle.std.proofs.Common.{◌∙◌, [], ◌∷◌, ap, arith}
use Rattle.vcs_machine.specs.Bus.{Observed, bus_device}
use Rattle.vcs_machine.proofs.BusTime.{passed}
use Rattle.vcs_machine.proofs.Storing.{stored_at}
use Rattle.vcs_machine.proofs.bus.ConsoleBusSettle.store.Goals as goal

pub pass_wait_of_store-requires-clause-offset : goal.pass_wait_of_store-requires-clause-offset
pass_wait_of_store-requires-clause-offset g c = c.can_pass_wait.ensures.offset c.if-can_pass_wait.true

pub pass_wait_of_store-requires-clause-low : goal.pass_wait_of_store-requires-clause-low
pass_wait_of_store-requires-clause-low g c =
    let b = c.args.self.now in
    let offset = c.can_pass_wait.ensures.offset c.if-can_pass_wait.true in
    let ready = c.requires.ready.0 in
    omega (arith, passed b, ready, offset)

pub returns-then-can_pass_wait-clause-settled : goal.returns-then-can_pass_wait-clause-settled
returns-then-can_pass_wait-clause-settled g c =
    stored_at c.args.self.now _ c.args.cycles c.args.address c.args.value _ (c.can_pass_wait.ensures.wsync c.if-can_pass_wait.true) (c.pass_wait_of_store.ensures.settled c.args.value)

pub returns-then-can_pass_wait-clause-ready : goal.returns-then-can_pass_wait-clause-ready
returns-then-can_pass_wait-clause-ready g c = λ on.
    let b = c.pass_wait_of_store.new.self in
    let low = c.pass_wait_of_store.ensures.low on in
    (omega (arith, passed b, low), λ n few. omega (arith, passed b, low, few))

pub advance-requires : goal.advance-requires
advance-requires g c = c.requires.ready.1 c.args.cycles c.requires.most

pub settle-requires : goal.settle-requires
settle-requires g c =
    let d = bus_device g.O.Observer.observe in
    record {
      before = c.args.self.now;
      ready = c.requires.ready;
      cycles = c.args.cycles;
      least = c.requires.least;
      most = c.requires.most;
      reads = [];
      writes = (c.args.address, c.args.value) ∷ [];
      is = c.poke.ensures.content ∙ ap (λ (x : Observed g.O.Observer.Seen). d.after_poke x c.args.address c.args.value) c.advance.ensures.content;
    }

pub returns-clause-settled : goal.returns-clause-settled
returns-clause-settled g c =
    let d = bus_device g.O.Observer.observe in
    record {
      bus = c.poke.new.self;
      is = c.poke.ensures.content ∙ ap (λ (x : Observed g.O.Observer.Seen). d.after_poke x c.args.address c.args.value) c.advance.ensures.content;
      settles = c.settle.ensures.settled;
    }
