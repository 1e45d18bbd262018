use Rattle.std.proofs.Common.{arith}
use Rattle.tas_desk.proofs.PartLemmas.{inputs_more, room_ends, room_fits}
use Rattle.tas_desk.proofs.parts.room_for.Goals as goal

pub loop-k-preserved : goal.loop-k-preserved
loop-k-preserved g c =
    let next = inputs_more c.args.entries.now c.loop-k.k c.index-entries-k.result (omega (arith, c.min-most.ensures, c.loop-k-test.true)) in
    omega (arith, next, c.loop-k.invariant, c.inputs_of-more.ensures, c.if-more-room.false)

pub returns-then-more-room : goal.returns-then-more-room
returns-then-more-room g c =
    room_ends c.args.entries.now c.loop-k.k c.min-most.result c.loop-k.room c.inputs_of-more.result c.index-entries-k.result (omega (arith, c.min-most.ensures)) c.loop-k-test.true c.loop-k.invariant
    c.inputs_of-more.ensures c.if-more-room.true

pub returns : goal.returns
returns g c = room_fits c.args.entries.now c.loop-k.k c.min-most.result c.loop-k.room (omega (arith, c.min-most.ensures)) c.loop-k-test.false (omega arith) c.loop-k.invariant
