use Rattle.std.proofs.Common.{take}
use Rattle.byte_text.specs.Splitting.{NoByte}
use Rattle.byte_text.proofs.splitting.split_once.Given as goal

abbrev pub invariant-loop-at : goal.invariant-loop-at
invariant-loop-at l = NoByte l.mark (take l.at l.bytes)
