use Rattle.std.proofs.Common.{take}
use Rattle.tas_search.specs.Inside.Arrivals.{Lists}
use Rattle.tas_search.proofs.reaching.listed.Given as goal

abbrev pub invariant-loop-j : goal.invariant-loop-j
invariant-loop-j g l = Lists l.space l.place (take l.j l.stretch) l.list.items
