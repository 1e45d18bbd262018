use Rattle.std.proofs.Common.{List, ℕ, inr, map, sym, subst}
use Rattle.tas_verify.specs.declared.manifest.Row.{Row}
use Rattle.tas_verify.specs.Manifest.{words_in, IsManifest}
use Rattle.tas_verify.proofs.RunLemmas.{runs_on}
use Rattle.tas_verify.proofs.running.verify_run.Goals as goal

pub returns-in-Ok-read_manifest : goal.returns-in-Ok-read_manifest
returns-in-Ok-read_manifest g c =
    let rows : List Row = c.as_slice-in-Ok-read_manifest.result.now in
    let is = subst (λ (b : List ℕ). IsManifest b (map words_in rows)) c.as_slice.ensures.value
    (subst (λ (r : List Row). IsManifest c.as_slice.result.now (map words_in r)) (sym c.as_slice-in-Ok-read_manifest.ensures.value) c.in-Ok-read_manifest.ensures.read) in
    inr (c.in-Ok.bytes.items, c.in-Ok.ensures.whole, runs_on (g.S.Shelf.facts c.args.shelf.now) c.in-Ok.bytes.items (map words_in rows) _ _ c.run_rows.result is c.run_rows.ensures)
