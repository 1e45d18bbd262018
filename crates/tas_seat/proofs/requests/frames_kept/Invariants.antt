use Rattle.std.proofs.Common.{◌≡◌, ◌*◌}
use Rattle.tas_seat.specs.Requests.{kept_frames}
use Rattle.tas_seat.proofs.requests.frames_kept.Given as goal

abbrev pub invariant-loop-before : goal.invariant-loop-before
invariant-loop-before g l = l.frames.items ≡ kept_frames (l.before * l.step) l.view.states
