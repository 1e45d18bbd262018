use Rattle.std.proofs.Common.{◌≡◌, true, take}
use Rattle.std.specs.List.{list_all}
use Rattle.tas_words.specs.Guides.{is_bare_byte}
use Rattle.tas_words.proofs.tips.is_bare.Given as goal

abbrev pub invariant-loop-byte : goal.invariant-loop-byte
invariant-loop-byte l = list_all is_bare_byte (take l.byte-index l.byte-items) ≡ true
