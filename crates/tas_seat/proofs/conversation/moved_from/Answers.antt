use Rattle.std.proofs.lemmas.Result.{err_from_is_err_and}
use Rattle.tas_seat.proofs.ConversationLemmas.{still_there, has_moved, look_stands, look_fails}
use Rattle.tas_seat.proofs.conversation.moved_from.Goals as goal

pub returns-in-Ok : goal.returns-in-Ok
returns-in-Ok g c = still_there g.row.A.Denot c.args.seat.now c.commit.new.seat c.args.at _ c.in-Ok.ensures

pub returns-in-Err-Moved : goal.returns-in-Err-Moved
returns-in-Err-Moved g c = has_moved g.row.A.Denot c.args.seat.now c.commit.new.seat c.args.at c.in-Err-Moved.at (rw c.in-Err-Moved.field-0-is at c.in-Err-Moved.ensures)

pub returns-in_ok-refused_as-in-Err-Refused : goal.returns-in_ok-refused_as-in-Err-Refused
returns-in_ok-refused_as-in-Err-Refused g c =
    look_stands g.row.A.Denot c.args.seat.now c.commit.new.seat c.args.at c.in-Err-Refused.error c.refused_as.result _ c.refused_as.ensures c.in_ok-refused_as-in-Err-Refused.was (rw c.in-Err-Refused.field-0-is at c.in-Err-Refused.ensures)

pub returns-in_err-refused_as-in-Err-Refused : goal.returns-in_err-refused_as-in-Err-Refused
returns-in_err-refused_as-in-Err-Refused g c =
    let p = err_from_is_err_and c.from_residual.result c.from_residual.ensures.1 in
    rw (p.1, p.2)
    (look_fails g.row.A.Denot c.args.seat.now c.commit.new.seat c.args.at c.in-Err-Refused.error c.refused_as.result _ c.refused_as.ensures c.in_err-refused_as-in-Err-Refused.was (rw c.in-Err-Refused.field-0-is at c.in-Err-Refused.ensures))
