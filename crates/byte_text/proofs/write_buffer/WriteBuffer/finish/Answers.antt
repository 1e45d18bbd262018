use Rattle.std.proofs.Common.{sym, subst, []}
use Rattle.byte_text.specs.CutOff.{IsCutOff}
use Rattle.byte_text.proofs.Sendings.{sending-whole}
use Rattle.byte_text.proofs.write_buffer.WriteBuffer.finish.Goals as goal

pub returns-in-Ok-clause-all : goal.returns-in-Ok-clause-all
returns-in-Ok-clause-all g c = λ start text sending.
    sending-whole start (g.W.Write.contents c.flush.new.to) text c.flush.new.self c.in-Ok.ensures.empty (c.in-Ok.ensures.keeps start text [] sending)

pub returns-in-Err-clause-cut : goal.returns-in-Err-clause-cut
returns-in-Err-clause-cut g c = λ start text sending.
    subst (IsCutOff start (g.W.Write.contents c.flush.new.to) text) (sym c.written.ensures) (c.in-Err.ensures.fault start text [] sending)
