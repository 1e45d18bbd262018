use Rattle.std.proofs.Common.{◌≡◌, ◌++◌, take}
use Rattle.std.specs.List.{flat_map}
use Rattle.tas_language.specs.Answers.{frame_word}
use Rattle.tas_language.proofs.answers.push_frames.Given as goal

abbrev pub invariant-loop-frame : goal.invariant-loop-frame
invariant-loop-frame g l = l.bytes.items ≡ l.fn.bytes.items ++ flat_map frame_word (take l.frame-index l.frames)
