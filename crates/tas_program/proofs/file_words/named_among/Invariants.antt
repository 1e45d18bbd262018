use Rattle.std.proofs.Common.{◌≡◌, drop}
use Rattle.tas_program.specs.FileWords.{first_named}
use Rattle.tas_program.proofs.file_words.named_among.Given as goal

abbrev pub invariant-loop-other : goal.invariant-loop-other
invariant-loop-other l = first_named l.words l.name l.others ≡ first_named l.words l.name (drop l.other-index l.others)
