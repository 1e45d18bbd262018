use Rattle.std.proofs.Common.{arith}
use Rattle.std.proofs.lemmas.Grind.{common_steps}
use Rattle.tas_tool.proofs.NotedDeskLemmas.{blank_shown, first_kept}
use Rattle.tas_tool.proofs.noted_holding.share_on.Goals as goal

pub unreachable-requires-in-Err : goal.unreachable-requires-in-Err
unreachable-requires-in-Err g c = absurd (c.in-Err.ensures.refused (blank_shown c.args.seats.now c.in-Some.first.now c.new.new.other _ c.args.journal c.in-Some.ensures.cases.0 c.new.ensures.other c.requires.blank))

pub returns-clause-kept : goal.returns-clause-kept
returns-clause-kept g c = first_kept c.args.seats.now c.in-Some.first.now c.new.new.other _ c.in-Some.ensures.cases.0 c.new.ensures.other

pub returns-clause-count : goal.returns-clause-count
returns-clause-count g c = grind (arith, common_steps)
