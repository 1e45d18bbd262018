use Rattle.std.proofs.Common.{◌≡◌, length, subst, sym, ◌∙◌, arith}
use Rattle.std.specs.Prelude.{IfErr}
use Rattle.tas_film.specs.declared.runs.ExportPlan.{ExportPlan}
use Rattle.tas_desk.specs.Exports.{IsInRange}
use Rattle.tas_published.specs.History.{movie_of}
use Rattle.tas_engines.specs.declared.fault.RunFault.TheVariants.{Memory}
use Rattle.tas_tool.specs.Inside.TwoEdits.{StandsAtOwn}
use Rattle.tas_tool.proofs.CheckedLemmas.{longer}
use Rattle.tas_tool.proofs.ExportLemmas.{frames_end, export_own, export_room}
use Rattle.tas_tool.proofs.exporting.write_frames.Goals as goal

pub returns-clause-ends : goal.returns-clause-ends
returns-clause-ends g c = λ le.
    let seat = c.export-answer.new.seat in
    let seen = c.export-answer.ensures.seat.seen in
    let more = longer c.args.seat.now seat seen in
    let plan : ExportPlan = record { from = c.args.frames.from; to = c.args.frames.to; workers = c.args.frames.workers } in
    frames_end seat c.args.seat.now.zone plan _ _ c.export-answer.result c.export_end.result (seen.made ∙ c.requires.two.0) (omega (arith, more, c.requires.two.1)) c.export-answer.ensures.reply c.export_end.ensures le

pub returns-clause-own : goal.returns-clause-own
returns-clause-own g c =
    let seat = c.export-answer.new.seat in
    let seen = c.export-answer.ensures.seat.seen in
    let more = longer c.args.seat.now seat seen in
    let plan : ExportPlan = record { from = c.args.frames.from; to = c.args.frames.to; workers = c.args.frames.workers } in
    subst (StandsAtOwn seat) (sym c.export_end.ensures)
    (export_own seat c.args.seat.now.zone plan _ _ c.export-answer.result (seen.made ∙ c.requires.two.0) (omega (arith, more, c.requires.two.1)) c.export-answer.ensures.reply)

pub returns-clause-memory : goal.returns-clause-memory
returns-clause-memory g c =
    let seat = c.export-answer.new.seat in
    let plan : ExportPlan = record { from = c.args.frames.from; to = c.args.frames.to; workers = c.args.frames.workers } in
    subst (λ r. IfErr r (λ fault. fault ≡ Memory → IsInRange (length (movie_of seat.front).inputs) plan.from plan.to)) (sym c.export_end.ensures)
    (export_room c.args.seat.now.zone (movie_of seat.front) (length seat.front) plan _ _ c.export-answer.result c.export-answer.ensures.reply)
