use Rattle.std.proofs.Common.{arith}
use Rattle.std.proofs.lemmas.Grind.{common_steps}
use Rattle.byte_text.proofs.write_buffer.WriteBuffer.push.Goals as goal

pub returns : goal.returns
returns c = grind (arith, common_steps)
