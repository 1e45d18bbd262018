use Rattle.std.proofs.Common.{◌≡◌, length}
use Rattle.tas_engines.specs.Remarks.{trimmed}
use Rattle.tas_verify.proofs.manifest.trimmed.Given as goal

-- what was left out is spaces
abbrev pub invariant-loop-last : goal.invariant-loop-last
invariant-loop-last l = trimmed l.rest ≡ trimmed l.bytes

abbrev pub decreases-loop-last : goal.decreases-loop-last
decreases-loop-last l = length l.rest
