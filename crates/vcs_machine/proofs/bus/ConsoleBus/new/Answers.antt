use Rattle.std.proofs.lemmas.Grind.{common_steps}
use Rattle.std.proofs.Common.{arith}
use Rattle.vcs_machine.proofs.Lagging.{lagging-zero}
use Rattle.vcs_machine.proofs.bus.ConsoleBus.new.Goals as goal

pub returns-clause-content : goal.returns-clause-content
returns-clause-content g c =
    lagging-zero g.O.Observer.observe g.met.O.Observer.observe_nil g.met.O.Observer.observe_append c.args.rom.now c.args.pins c.args.riot.now c.args.tia.now (g.O.Observer.seen c.args.observer.now) _ _ (omega arith) (omega arith)

pub invariant_of-result : goal.invariant_of-result
invariant_of-result g c = grind (arith, common_steps)

pub returns-clause-mirror : goal.returns-clause-mirror
returns-clause-mirror g c = grind (arith, common_steps)
