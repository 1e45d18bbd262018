use Rattle.std.proofs.Common.{◌≡◌, take, drop}
use Rattle.tas_program.specs.FileWords.{fault_from, first_fault}
use Rattle.tas_program.proofs.file_words.fault_among.Given as goal

abbrev pub invariant-loop-i : goal.invariant-loop-i
invariant-loop-i l = first_fault l.seen ≡ fault_from (take l.i l.seen) (drop l.i l.seen)
