use Rattle.std.proofs.Common.{◌*◌, ◌^◌}
use Rattle.tas_search.specs.Inside.Digits.{IsLow, low_value}
use Rattle.tas_search.proofs.power.times_power.Given as goal

abbrev pub invariant-loop-done : goal.invariant-loop-done
invariant-loop-done g l = IsLow l.digits.items (low_value l.fn.start.items * l.factor ^ l.done)
