use Rattle.tas_tool.proofs.NotedDeskLemmas.{noted_read, noted_unread}
use Rattle.tas_tool.proofs.noted_desk_runs.noted_desk_run.Goals as goal

pub returns-in-Err : goal.returns-in-Err
returns-in-Err g c =
    rw (c.unbegun.ensures.end, c.unbegun.ensures.begun)
    (noted_unread g.D.Door.facts g.J.JournalFile.kept c.args.doors.now.items _ _ _ _ _ _ _ _ c.in-Err.ensures c.unbegun.ensures.file)

pub returns-in-Ok : goal.returns-in-Ok
returns-in-Ok g c =
    noted_read g.D.Door.facts g.J.JournalFile.kept c.args.doors.now.items c.noted_desk_on.new.doors.items c.in-Ok.movie _ _ _ _ _ _ _ _ _ _ c.in-Ok.ensures c.noted_desk_on.ensures
