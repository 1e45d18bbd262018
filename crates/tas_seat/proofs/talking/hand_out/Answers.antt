use Rattle.std.proofs.Common.{ap}
use Rattle.std.proofs.KnownBytes.{Appends-kept}
use Rattle.tas_engines.specs.declared.fault.RunFault.TheVariants.{Write}
use Rattle.tas_seat.proofs.TalkLemmas.{counted_from_nothing}
use Rattle.tas_seat.proofs.talking.hand_out.Goals as goal

pub returns-in-Err-clause-fault : goal.returns-in-Err-clause-fault
returns-in-Err-clause-fault g c =
    (c.in-Err.fault.written, counted_from_nothing _ _ c.args.bytes.now c.in-Err.fault.written c.in-Err.ensures.cut, ap Write c.saturating_add.ensures)

pub returns-clause-out : goal.returns-clause-out
returns-clause-out g c = Appends-kept _ _ _ c.args.bytes.now c.in_default.ensures.all c.flush.ensures.bytes
