use Rattle.std.proofs.Common.{◌≡◌, drop}
use Rattle.tas_program.specs.FileWords.{first_same}
use Rattle.tas_program.proofs.file_words.same_among.Given as goal

abbrev pub invariant-loop-other : goal.invariant-loop-other
invariant-loop-other l = first_same l.others l.word ≡ first_same (drop l.other-index l.others) l.word
