-- Frames of a movie, one after the other.
use Rattle.std.proofs.Common.{◌≡◌, ℕ, ◌+◌, ◌≤◌, length, ap, sym, ◌∙◌, arith, take_all}
use Rattle.vcs_machine.specs.Machine.{after}
use Rattle.tas_movie.specs.Content.{MovieContent}
use Rattle.tas_green.specs.Run.{state_after}

-- past the movie's end no frame is left
pub past_end : (movie : MovieContent) (k : ℕ) → length movie.inputs ≤ k → state_after movie k ≡ state_after movie (k + 1)
past_end movie k le = ap (after movie.cart) (take_all k movie.inputs le ∙ sym (take_all (k + 1) movie.inputs (omega arith)))
