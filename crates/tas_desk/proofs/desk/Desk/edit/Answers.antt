use Rattle.tas_desk.proofs.LockedLemmas.{edited_at}
use Rattle.tas_desk.proofs.desk.Desk.edit.Goals as goal

pub returns : goal.returns
returns g c =
    let e = c.edit.ensures in
    edited_at _ _ c.args.seat.now c.edit.new.seat c.args.edit _ e.begins e.receipt e.refusal e.answered e.done e.refused e.seat
