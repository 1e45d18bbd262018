use Rattle.std.proofs.Common.{inl, refl, ap, length, arith}
use Rattle.tas_tool.proofs.NotedDeskLemmas.{noted_answer_as, noted_not_begun, unmade_noted}
use Rattle.tas_tool.proofs.noted_desk_runs.noted_desk_on.Goals as goal

pub returns-in_default : goal.returns-in_default
returns-in_default g c =
    rw (c.unbegun.ensures.end, c.unbegun.ensures.begun)
    (noted_not_begun g.D.Door.facts g.J.JournalFile.kept c.args.doors.now.items _ c.args.movie (g.J.Write.contents c.args.file) (g.J.Write.contents c.args.file) _ _ _ _ (unmade_noted c.args.movie (g.J.Write.contents c.args.file) _ _ (inl refl) c.run_fault.ensures)
    c.unbegun.ensures.file refl refl)

pub returns-in-Err : goal.returns-in-Err
returns-in-Err g c =
    rw (c.unbegun-in-Err.ensures.end, c.unbegun-in-Err.ensures.begun)
    (noted_not_begun g.D.Door.facts g.J.JournalFile.kept c.args.doors.now.items c.hold_noted_desk.new.doors.items c.args.movie (g.J.Write.contents c.args.file) _ _ _ _ _ c.in-Err.ensures.fault c.unbegun-in-Err.ensures.file c.in-Err.ensures.unopened refl)

pub end_noted-requires : goal.end_noted-requires
end_noted-requires g c = omega (arith, ap (λ l. length l) c.as_slice.ensures.value, c.in-Ok-hold_noted_desk.ensures.history.desk.many, c.requires.few)

pub returns-in-Ok-hold_noted_desk : goal.returns-in-Ok-hold_noted_desk
returns-in-Ok-hold_noted_desk g c =
    let held = c.in-Ok-hold_noted_desk.held in
    noted_answer_as g.D.Door.facts g.J.JournalFile.kept c.args.doors.now.items c.hold_noted_desk.new.doors.items c.args.movie _ held.closed.journal.items held.ends.items _ _ _ _ _ c.in-Ok-hold_noted_desk.ensures.history c.in-Ok-hold_noted_desk.ensures.movie
    (rw c.as_slice.ensures.value at c.end_noted.ensures)
