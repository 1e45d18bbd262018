use Rattle.std.proofs.Common.{◌≡◌, true, take}
use Rattle.std.specs.List.{list_all}
use Rattle.tas_words.specs.Guides.{is_number_byte}
use Rattle.tas_words.proofs.tips.may_be_number.Given as goal

abbrev pub invariant-loop-byte : goal.invariant-loop-byte
invariant-loop-byte l = list_all is_number_byte (take l.byte-index l.byte-items) ≡ true
