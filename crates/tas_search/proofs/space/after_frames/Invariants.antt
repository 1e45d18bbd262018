use Rattle.std.proofs.Common.{◌≡◌, ◌-◌, replicate}
use Rattle.vcs_machine.specs.Machine.{after_from}
use Rattle.tas_search.proofs.space.after_frames.Given as goal

-- the frames that are left lead to the end
abbrev pub invariant-loop-played : goal.invariant-loop-played
invariant-loop-played g l = after_from l.cart l.state (replicate (l.count - l.played) l.input) ≡ after_from l.cart l.fn.start (replicate l.count l.input)
