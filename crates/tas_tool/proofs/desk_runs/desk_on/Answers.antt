use Rattle.std.proofs.Common.{refl, ap, inl, inr, ◌∙◌}
use Rattle.std.proofs.lemmas.Result.{err_from_is_err_and}
use Rattle.tas_tool.specs.Desks.{first_fault}
use Rattle.tas_tool.proofs.DeskLemmas.{not_begun, answer_as}
use Rattle.tas_tool.proofs.desk_runs.desk_on.Goals as goal

pub returns-in_default : goal.returns-in_default
returns-in_default g c = not_begun g.D.Door.facts c.args.doors.now.items _ c.args.movie _ _ _ _ refl (inl refl) refl refl

pub returns-in_err-held : goal.returns-in_err-held
returns-in_err-held g c =
    let p = err_from_is_err_and c.from_residual.result c.from_residual.ensures.1 in
    rw (p.1, p.2) (not_begun g.D.Door.facts c.args.doors.now.items c.hold_desk.new.doors.items c.args.movie _ _ _ _ refl c.in_err-held.ensures.fault c.in_err-held.ensures.unopened refl)

pub returns-in_err-write_movie : goal.returns-in_err-write_movie
returns-in_err-write_movie g c =
    let p = err_from_is_err_and c.from_residual-in_err-write_movie.result c.from_residual-in_err-write_movie.ensures.1 in
    let held = c.in_ok-held.held in
    rw (p.1, p.2)
    (answer_as g.D.Door.facts c.args.doors.now.items c.hold_desk.new.doors.items c.args.movie held.closed.movie held.closed.journal.items held.ends.items _ _ _ c.in_ok-held.ensures.history c.in_ok-held.ensures.movie
    (inr (_, refl, c.in_err-write_movie.ensures)))

pub returns : goal.returns
returns g c =
    let held = c.in_ok-held.held in
    answer_as g.D.Door.facts c.args.doors.now.items c.hold_desk.new.doors.items c.args.movie held.closed.movie held.closed.journal.items held.ends.items _ _ c.first_fault.result c.in_ok-held.ensures.history c.in_ok-held.ensures.movie
    (inl (c.in_ok-write_movie.ensures, c.first_fault.ensures ∙ ap (λ l. first_fault 0 l) c.as_slice.ensures.value))
