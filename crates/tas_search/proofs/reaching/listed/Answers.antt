use Rattle.std.proofs.Common.{◌+◌, arith, subst}
use Rattle.vcs_machine.specs.Machine.{Machine}
use Rattle.tas_search.specs.Inside.Arrivals.{ListsOneMore}
use Rattle.tas_search.proofs.GrowLemmas.{lists_more}
use Rattle.tas_search.proofs.reaching.listed.Goals as goal

pub loop-j-preserved : goal.loop-j-preserved
loop-j-preserved g c =
    lists_more c.args.space.now c.args.place c.loop-j.j c.args.stretch.now c.loop-j.list.items c.push_next.new.list.items c.index-stretch-j.result (omega (arith, c.loop-j-test.true)) c.index-stretch-j.is c.loop-j.invariant
    (subst (λ (m : Machine). ListsOneMore c.args.space.now m (c.args.place + c.loop-j.j) c.loop-j.list.items c.push_next.new.list.items) c.unpack.ensures c.in_ok-push_next.ensures)
