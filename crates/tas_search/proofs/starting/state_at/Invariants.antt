use Rattle.std.proofs.Common.{◌≡◌, take}
use Rattle.vcs_machine.specs.Machine.{after}
use Rattle.tas_search.proofs.starting.state_at.Given as goal

abbrev pub invariant-loop-k : goal.invariant-loop-k
invariant-loop-k g l = l.state ≡ after l.movie.cart (take l.k l.movie.inputs)
