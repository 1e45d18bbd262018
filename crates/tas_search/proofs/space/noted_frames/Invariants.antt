use Rattle.std.proofs.Common.{◌≡◌, ◌-◌, true, replicate}
use Rattle.std.specs.Prelude.{◌&&◌}
use Rattle.vcs_inputs.specs.declared.input.Input.{Input}
use Rattle.vcs_machine.specs.Machine.{after_from}
use Rattle.tas_search.specs.Space.{are_lag_frames}
use Rattle.tas_search.proofs.space.noted_frames.Given as goal

-- the frames that are left lead to the end, and are lag frames if all are; so they do from here with any other input, where no frame has read its input
abbrev pub invariant-loop-played : goal.invariant-loop-played
invariant-loop-played g l = record {
  state : after_from l.cart l.state (replicate (l.count - l.played) l.input) ≡ after_from l.cart l.fn.start (replicate l.count l.input);
  lag : (l.lag && are_lag_frames l.cart l.state l.input (l.count - l.played)) ≡ are_lag_frames l.cart l.fn.start l.input l.count;
  alike : l.lag ≡ true → (other : Input) → after_from l.cart l.state (replicate (l.count - l.played) other) ≡ after_from l.cart l.fn.start (replicate l.count other);
}
