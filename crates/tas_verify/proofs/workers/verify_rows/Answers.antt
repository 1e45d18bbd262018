use Rattle.std.proofs.Common.{◌≡◌, List, length, map, ap, sym, subst, ◌∙◌, arith}
use Rattle.tas_verify.specs.declared.lines.Verified.{Verified}
use Rattle.tas_verify.specs.Manifest.{words_in}
use Rattle.tas_verify.specs.Lines.{AreOutcomes, end_of}
use Rattle.tas_verify.proofs.WorkerLemmas.{outcomes_played, rows_of, taken_back}
use Rattle.tas_verify.proofs.workers.verify_rows.Goals as goal

pub returns : goal.returns
returns g c =
    let facts = g.S.Shelf.facts c.args.shelf.now in
    let new : List Verified = c.play_each.new.verified in
    let same : length c.play_each.new.verified ≡ length c.as_mut_slice.result.now = omega arith in
    let long : c.in_ok-verified.verified.len ≡ length c.play_each.new.verified = omega (arith, c.as_mut_slice.ensures.len, same) in
    let played = outcomes_played facts (map words_in c.args.rows.now) c.as_mut_slice.result.now new same (ap rows_of c.as_mut_slice.ensures.value ∙ c.in_ok-verified.ensures) c.play_each.ensures in
    subst (λ (v : List Verified). AreOutcomes facts (map words_in c.args.rows.now) (map end_of v)) (sym (taken_back new _ c.in_ok-verified.verified.len long)) played
