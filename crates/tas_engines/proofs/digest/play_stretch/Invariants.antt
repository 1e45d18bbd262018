use Rattle.std.proofs.Common.{◌≡◌, ℕ, ◌+◌, ◌≤◌, ◌<◌, None}
use Rattle.sha2.specs.Hashers.{Holds256}
use Rattle.tas_green.specs.Run.{state_after}
use Rattle.tas_engines.specs.Digests.{ram_of_frames}
use Rattle.tas_engines.proofs.digest.play_stretch.Given as goal

abbrev pub invariant-loop-k : goal.invariant-loop-k
invariant-loop-k g l = record {
  state : l.state ≡ state_after l.movie l.k;
  holds : Holds256 l.hasher (ram_of_frames l.movie l.from l.k);
  drawn : (f : ℕ) → l.from ≤ f → f < l.k → (state_after l.movie (f + 1)).halt ≡ None;
}
