use Rattle.std.proofs.Common.{◌∙◌, ap, arith}
use Rattle.std.proofs.lemmas.Grind.{common_steps}
use Rattle.std.proofs.lemmas.List.{take_all}
use Rattle.tas_engines.specs.Scripts.{change_line}
use Rattle.std.specs.List.{flat_map}
use Rattle.tas_engines.proofs.scripts.print_changes.Goals as goal

pub returns : goal.returns
returns g c = c.loop-change.invariant ∙ ap (flat_map change_line) (take_all c.loop-change.change-index c.args.changes.now c.loop-change-test.false)

pub loop-change-preserved : goal.loop-change-preserved
loop-change-preserved g c = grind (arith, common_steps)
