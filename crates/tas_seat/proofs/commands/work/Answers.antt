use Rattle.std.proofs.Common.{◌∙◌}
use Rattle.tas_seat.proofs.SeatLemmas.{seen_more}
use Rattle.tas_seat.proofs.LookLemmas.{work_refused, work_answered}
use Rattle.tas_seat.proofs.commands.work.Goals as goal

pub returns-in_default : goal.returns-in_default
returns-in_default g c = work_refused g.row.A.Denot c.args.seat.now c.work.new.seat c.args.frame c.work.ensures.seat.seen c.work.ensures.seat.zone

pub returns-in_default-share : goal.returns-in_default-share
returns-in_default-share g c =
    work_refused g.row.A.Denot c.args.seat.now c.share.new.seat c.args.frame (seen_more c.args.seat.now c.work.new.seat c.share.new.seat c.work.ensures.seat.seen c.share.ensures.seat) (c.in_default-share.ensures.zone ∙ c.work.ensures.seat.zone)

pub returns : goal.returns
returns g c =
    rw c.worked_reply.ensures
    (work_answered g.row.A.Denot c.args.seat.now c.work.new.seat c.share.new.seat c.args.frame c.in-Ok.worked _ c.work.ensures.seat c.share.ensures.seat c.in-Ok.ensures.reply.0 c.in-Ok.ensures.reply.1 c.in-Ok.ensures.jobs c.in-Ok.ensures.current c.in-Ok-share.ensures.zone)
