use Rattle.std.proofs.Common.{◌≡◌, ◌-◌, ap, subst, refl, ℕ, List, length, Some, arith, rules}
use Rattle.std.specs.Io.KnownBytes.{Appends}
use Rattle.byte_text.specs.CutOff.{IsCutOff}
use Rattle.tas_film.specs.declared.pixmaps.Stop.TheVariants.{Halted, Memory}
use Rattle.tas_film.specs.Runs.{pixmaps_in}
use Rattle.tas_film.proofs.RunLemmas.{runs_shown}
use Rattle.tas_film.proofs.WriteLemmas.{runs_drawn, shown_halted, shown_refused, length-pixmaps_of}
use Rattle.tas_film.proofs.exporting.export_runs.Goals as goal

pub returns-in-Some-Halted-clause-fault : goal.returns-in-Some-Halted-clause-fault
returns-in-Some-Halted-clause-fault g c =
    let is : c.play_runs-end.result.stop ≡ Some (Halted c.in-Some-Halted.halted) = search rules in
    let shown = runs_shown c.args.movie.now c.args.zone.now c.args.plan (pixmaps_in c.play_runs-end.new.runs) c.play_runs-end.result c.requires.plan c.play_runs-end.ensures in
    (shown_halted c.args.movie.now c.args.plan.from c.args.plan.to _ _ c.in-Some-Halted.halted is shown, refl)

pub returns-in-Some-Memory-clause-fault : goal.returns-in-Some-Memory-clause-fault
returns-in-Some-Memory-clause-fault g c =
    let is : c.play_runs-end.result.stop ≡ Some Memory = search rules in
    let shown = runs_shown c.args.movie.now c.args.zone.now c.args.plan (pixmaps_in c.play_runs-end.new.runs) c.play_runs-end.result c.requires.plan c.play_runs-end.ensures in
    (shown_refused c.args.movie.now c.args.plan.from c.args.plan.to _ _ is shown, refl)

pub write_pixmaps-requires : goal.write_pixmaps-requires
write_pixmaps-requires g c =
    let drawn = runs_drawn c.args.movie.now c.args.plan c.args.zone.now c.play_runs-end.new.runs c.play_runs-end.result c.requires.plan c.play_runs-end.ensures c.in-None.is in
    let bytes = ap (λ (bs : List ℕ). length bs) drawn.are in
    let all = length-pixmaps_of c.args.movie.now c.args.plan.from (c.args.plan.to - c.args.plan.from) in
    omega arith

pub returns-in-Ok-clause-ok : goal.returns-in-Ok-clause-ok
returns-in-Ok-clause-ok g c =
    let drawn = runs_drawn c.args.movie.now c.args.plan c.args.zone.now c.play_runs-end.new.runs c.play_runs-end.result c.requires.plan c.play_runs-end.ensures c.in-None.is in
    subst (Appends _ _) drawn.are c.in-Ok.ensures.ok

pub returns-in-Ok-clause-played : goal.returns-in-Ok-clause-played
returns-in-Ok-clause-played g c = c.play_runs-end.ensures.played c.in-None.is

pub returns-in-Ok-clause-drawn : goal.returns-in-Ok-clause-drawn
returns-in-Ok-clause-drawn g c =
    (runs_drawn c.args.movie.now c.args.plan c.args.zone.now c.play_runs-end.new.runs c.play_runs-end.result c.requires.plan c.play_runs-end.ensures c.in-None.is).all

pub returns-in-Err-clause-fault : goal.returns-in-Err-clause-fault
returns-in-Err-clause-fault g c =
    let drawn = runs_drawn c.args.movie.now c.args.plan c.args.zone.now c.play_runs-end.new.runs c.play_runs-end.result c.requires.plan c.play_runs-end.ensures c.in-None.is in (
      drawn.all,
      subst (λ (bytes : List ℕ). IsCutOff (g.W.Write.contents c.args.to.now) (g.W.Write.contents c.write_pixmaps.new.to) bytes c.in-Err.fault.written) drawn.are c.in-Err.ensures.cut,
    )
