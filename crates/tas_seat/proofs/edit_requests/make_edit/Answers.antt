use Rattle.tas_seat.proofs.EditLemmas.{edit_made, edit_refused}
use Rattle.tas_seat.proofs.edit_requests.make_edit.Goals as goal

pub returns-in-Ok : goal.returns-in-Ok
returns-in-Ok g c = edit_made g.row.A.Denot c.args.seat.now c.edit_by.new.seat c.args.asked c.in-Ok.receipt c.in-Ok.ensures

pub returns-in-Err : goal.returns-in-Err
returns-in-Err g c = edit_refused g.row.A.Denot c.args.seat.now c.edit_by.new.seat c.args.asked c.in-Err.error c.refused_as.result c.in-Err.ensures c.refused_as.ensures
