use Rattle.std.proofs.Common.{arith}
use Rattle.tas_search.proofs.GrowLemmas.{insert_more}
use Rattle.tas_search.proofs.arrival.insert_each.Goals as goal

pub loop-arrival-preserved : goal.loop-arrival-preserved
loop-arrival-preserved g c =
    insert_more c.args.layer.now.keys c.loop-arrival.layer.keys c.insert.new.self.keys c.args.list.now c.loop-arrival.arrival-index c.arrival-item.result (omega (arith, c.loop-arrival-test.true)) c.arrival-item.is c.loop-arrival.invariant
    c.in_ok-insert.ensures.keys
