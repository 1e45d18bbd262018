use Rattle.std.proofs.lemmas.Grind.{common_steps}
use Rattle.std.proofs.Common.{◌∙◌, ap, sym, arith}
use Rattle.vcs_riot.specs.Timer.{after_ticks}
use Rattle.vcs_riot.specs.Chip.{byte_at, riot_after_load, riot_after_ticks}
use Rattle.vcs_machine.specs.Bus.{Observed, byte_of}
use Rattle.vcs_machine.specs.Inside.Chips.{after_riot_load}
use Rattle.vcs_machine.specs.Inside.Console.{content_of, ticks_of, clocks_of}
use Rattle.vcs_machine.proofs.Lagging.{lagging-no_ticks}
use Rattle.vcs_machine.proofs.bus.ConsoleBus.load_timer.Goals as goal

pub returns-clause-value : goal.returns-clause-value
unfolding after_ticks
returns-clause-value g c =
    let b = c.catch_up_riot.new.self in
    c.load.ensures.value
    ∙ ap (λ n. byte_at c.args.address b.pins (riot_after_ticks n b.riot.now)) (sym c.catch_up_riot.ensures.ticks)
    ∙ ap (λ (o : Observed g.O.Observer.Seen). byte_at c.args.address o.board.pins o.board.riot) c.catch_up_riot.ensures.content
    ∙ sym (ap (λ s. byte_of s (content_of c.args.self.now).board c.args.address) c.requires)

pub returns-clause-content : goal.returns-clause-content
returns-clause-content g c =
    let b = c.catch_up_riot.new.self in
    let seen = g.O.Observer.seen b.observer.now in
    lagging-no_ticks g.O.Observer.observe g.met.O.Observer.observe_nil g.met.O.Observer.observe_append (riot_after_load c.args.address) b.rom.now b.pins b.riot.now c.load.new.self b.tia.now seen (ticks_of b) (clocks_of b)
    c.catch_up_riot.ensures.ticks c.load.ensures.after
    ∙ ap (λ (o : Observed g.O.Observer.Seen). after_riot_load c.args.address o) c.catch_up_riot.ensures.content

pub invariant_of-self : goal.invariant_of-self
invariant_of-self g c = grind (arith, common_steps)
