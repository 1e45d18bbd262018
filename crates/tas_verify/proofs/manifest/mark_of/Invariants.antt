use Rattle.std.proofs.Common.{◌≡◌, true, not, take}
use Rattle.std.specs.Prelude.{◌==◌}
use Rattle.std.specs.List.{list_all}
use Rattle.tas_verify.proofs.manifest.mark_of.Given as goal

abbrev pub invariant-loop-byte : goal.invariant-loop-byte
invariant-loop-byte l = list_all (λ b. not (b == 9)) (take l.byte-index l.bytes) ≡ true
