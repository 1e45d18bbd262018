use Rattle.tas_desk.proofs.LockedLemmas.{edited_by_at}
use Rattle.tas_desk.proofs.desk.Desk.edit_by.Goals as goal

pub returns : goal.returns
returns g c =
    let e = c.edit_by.ensures in
    edited_by_at _ _ c.args.seat.now c.edit_by.new.seat _ _ _ e.begins e.receipt e.refusal e.allowed e.done e.refused e.seat
