use Rattle.std.proofs.Common.{◌<◌, arith}
use Rattle.tas_engines.proofs.GapLemmas.{goes_nowhere, goes_on}
use Rattle.tas_engines.proofs.comparing.push_up_to.Goals as goal

pub returns-then-same-eq0 : goal.returns-then-same-eq0
returns-then-same-eq0 g c = goes_nowhere c.args.old.now c.args.new.now c.args.gap c.args.changes.now.items c.requires

pub returns : goal.returns
returns g c =
    let other = c.if-same-eq0.false in
    let some : 0 < c.common_from-same.result = omega (arith, other) in
    goes_on c.args.old.now c.args.new.now c.args.gap c.args.anchor c.common_from-same.result c.args.changes.now.items c.push_gap.new.changes.items some (c.common_from-same.ensures some) c.in_ok-push_gap.ensures
