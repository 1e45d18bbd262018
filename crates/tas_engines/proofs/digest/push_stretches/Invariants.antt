use Rattle.std.proofs.Common.{◌≡◌, ℕ, ◌+◌, ◌*◌, ◌<◌, ◌++◌, min, None, length}
use Rattle.tas_green.specs.Run.{state_after}
use Rattle.tas_engines.specs.Digests.{digest_of, line_of_stretch}
use Rattle.tas_engines.proofs.StreamLemmas.{pieces}
use Rattle.tas_engines.proofs.digest.push_stretches.Given as goal

abbrev pub invariant-loop-i : goal.invariant-loop-i
invariant-loop-i g l = record {
  state : l.state ≡ state_after l.movie (min (l.i * l.every) (length l.movie.inputs));
  drawn : (f : ℕ) → f < min (l.i * l.every) (length l.movie.inputs) → (state_after l.movie (f + 1)).halt ≡ None;
  hashed : l.pixmaps.digits ≡ digest_of l.pixmaps.hashed.items;
  text : l.out.items ≡ l.fn.out.items ++ pieces (line_of_stretch l.every l.movie) 0 l.i;
}
