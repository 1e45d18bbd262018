use Rattle.std.proofs.Common.{◌≡◌, true, take}
use Rattle.std.specs.List.{list_all}
use Rattle.tas_verify.specs.Rows.{is_lower_digit}
use Rattle.tas_verify.proofs.playing.is_sha256.Given as goal

abbrev pub invariant-loop-byte : goal.invariant-loop-byte
invariant-loop-byte l = list_all is_lower_digit (take l.byte-index l.word) ≡ true
