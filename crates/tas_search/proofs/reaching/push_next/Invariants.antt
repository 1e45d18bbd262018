use Rattle.tas_search.proofs.GrowLemmas.{ListsSome}
use Rattle.tas_search.proofs.reaching.push_next.Given as goal

-- the choices that are left add the rest
abbrev pub invariant-loop-more : goal.invariant-loop-more
invariant-loop-more g l = ListsSome l.space l.state l.place l.more l.fn.list.items l.list.items
