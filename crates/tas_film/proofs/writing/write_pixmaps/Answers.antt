use Rattle.std.proofs.lemmas.Grind.{common_steps}
use Rattle.std.proofs.Common.{◌+◌, ◌-◌, ◌≤◌, ◌∙◌, ◌++◌, ap, subst, ℕ, List, length, take, arith}
use Rattle.std.proofs.lemmas.List.{length-append}
use Rattle.std.proofs.lemmas.Result.{err_from_is_err_and}
use Rattle.std.specs.List.{concat}
use Rattle.std.specs.Io.KnownBytes.{Appends}
use Rattle.std.proofs.KnownBytes.{Appends-trans}
use Rattle.tas_film.specs.Runs.{pixmaps_in}
use Rattle.tas_film.proofs.WriteLemmas.{pieces_more, pieces_front, pieces_long, pixmaps_at, pixmaps_below}
use Rattle.tas_film.proofs.writing.write_pixmaps.Goals as goal

pub write_counted-requires : goal.write_counted-requires
write_counted-requires g c =
    let runs = c.args.runs.now in
    let i = c.loop-run.run-index in
    let lt = pixmaps_below runs i c.loop-run-test.true in
    let at = pixmaps_at runs i c.run-item.result c.loop-run-test.true c.run-item.is in
    let long = pieces_long (pixmaps_in runs) i c.run-item.result.pixmaps c.loop-run.written lt at c.loop-run.invariant.size in
    let same = ap (λ (bs : List ℕ). length bs) c.bytes.ensures in
    omega arith

pub returns-in_err-written-clause-cut : goal.returns-in_err-written-clause-cut
returns-in_err-written-clause-cut g c =
    let p = err_from_is_err_and c.from_residual.result c.from_residual.ensures.1 in
    let runs = c.args.runs.now in
    let xs = pixmaps_in runs in
    let i = c.loop-run.run-index in
    let lt = pixmaps_below runs i c.loop-run-test.true in
    let at = pixmaps_at runs i c.run-item.result c.loop-run-test.true c.run-item.is in
    let before = c.loop-run.written in
    let w = c.in_err-written.field-0.0.written in
    let long = pieces_long xs i c.run-item.result.pixmaps before lt at c.loop-run.invariant.size in
    let same = ap (λ (bs : List ℕ). length bs) c.bytes.ensures in
    let from = c.in_err-written.ensures.from in
    let short = c.in_err-written.ensures.cut.missing in
    let most : c.in_err-written.field-0.0.written ≤ c.loop-run.written + length c.run-item.result.pixmaps = omega arith in
    let front = ap (λ (bs : List ℕ). concat (take i xs) ++ take (w - before) bs) c.bytes.ensures
    ∙ pieces_front xs i c.run-item.result.pixmaps before w lt at c.loop-run.invariant.size from most in
    rw (p.1, p.2) (record { missing = omega arith; front = subst (Appends _ _) front (Appends-trans _ _ _ _ _ c.loop-run.invariant.out c.in_err-written.ensures.cut.front) })

pub loop-run-preserved : goal.loop-run-preserved
loop-run-preserved g c =
    let runs = c.args.runs.now in
    let xs = pixmaps_in runs in
    let i = c.loop-run.run-index in
    let lt = pixmaps_below runs i c.loop-run-test.true in
    let at = pixmaps_at runs i c.run-item.result c.loop-run-test.true c.run-item.is in
    let more = pieces_more xs i c.run-item.result.pixmaps lt at in
    let longer = ap (λ (bs : List ℕ). length bs) more in
    let parts = length-append (concat (take c.loop-run.run-index (pixmaps_in c.args.runs.now))) c.run-item.result.pixmaps in
    let same = ap (λ (bs : List ℕ). length bs) c.bytes.ensures in
    let count = c.in_ok-written.ensures.count in
    record {
      size = omega arith;
      out = subst (Appends _ _) (ap (λ (bs : List ℕ). concat (take i xs) ++ bs) c.bytes.ensures ∙ more)
          (Appends-trans _ _ _ _ _ c.loop-run.invariant.out c.in_ok-written.ensures.all);
    }

pub returns-clause-ok : goal.returns-clause-ok
returns-clause-ok g c = grind (arith, common_steps)

pub loop-run-init : goal.loop-run-init
loop-run-init g c = grind (arith, common_steps)
