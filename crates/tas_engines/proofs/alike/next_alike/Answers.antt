use Rattle.tas_engines.proofs.AlikeLemmas.{nearest_next, nearer_next, room_within}
use Rattle.tas_engines.proofs.alike.next_alike.Goals as goal

pub returns-then-far-old : goal.returns-then-far-old
returns-then-far-old c = nearest_next c.args.old.now c.args.new.now c.args.lengths c.nearest.result c.nearest.ensures

pub nearest-requires-2 : goal.nearest-requires-2
nearest-requires-2 c = room_within c.args.old.now c.args.new.now c.args.lengths c.args.far.old c.args.far.new c.requires

pub returns-in-Some : goal.returns-in-Some
returns-in-Some c = nearer_next c.args.old.now c.args.new.now c.args.lengths c.args.far.old c.args.far.new c.in-Some.near c.in-Some.ensures
