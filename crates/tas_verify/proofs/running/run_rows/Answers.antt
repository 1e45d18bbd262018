use Rattle.std.proofs.lemmas.Grind.{common_steps}
use Rattle.std.proofs.Common.{◌≡◌, ◌+◌, ◌-◌, ◌≤◌, ◌++◌, List, [], length, map, take, drop, ap, sym, subst, ◌∙◌, arith}
use Rattle.std.specs.Prelude.{count_by}
use Rattle.std.proofs.lemmas.List.{length-map}
use Rattle.std.proofs.lemmas.Result.{err_from_is_err_and}
use Rattle.tas_verify.specs.declared.lines.Verified.{Verified}
use Rattle.tas_verify.specs.Manifest.{words_in}
use Rattle.tas_verify.specs.Lines.{AreOutcomes, end_of, is_same}
use Rattle.tas_verify.proofs.RunLemmas.{far_none, far_more, far_stopped, far_broken, far_all, all_ended, rows_between, rows_all, batch_length}
use Rattle.tas_verify.proofs.running.run_rows.Goals as goal

pub loop-at-init : goal.loop-at-init
loop-at-init g c = ([], far_none (g.S.Shelf.facts c.args.shelf.now) (map words_in c.args.rows.now) (g.W.Write.contents c.args.output.now))

pub returns-in_err-verified : goal.returns-in_err-verified
returns-in_err-verified g c =
    let p = err_from_is_err_and c.from_residual.result c.from_residual.ensures.1 in
    let (ends, far) = c.loop-at.invariant in
    rw (p.1, p.2) (far_stopped (g.S.Shelf.facts c.args.shelf.now) (map words_in c.args.rows.now) c.loop-at.at (g.W.Write.contents c.args.output.now) (g.W.Write.contents c.loop-at.output) c.loop-at.written c.loop-at.same ends far)

pub returns-in_err-written : goal.returns-in_err-written
returns-in_err-written g c =
    let p = err_from_is_err_and c.from_residual-in_err-written.result c.from_residual-in_err-written.ensures.1 in
    let (ends, far) = c.loop-at.invariant in
    let facts = g.S.Shelf.facts c.args.shelf.now in
    let rows = c.args.rows.now in
    let at = c.loop-at.at in
    let to = c.loop-at.at + c.min.result in
    let outcomes = subst (λ (v : List Verified). AreOutcomes facts (map words_in (take (to - at) (drop at rows))) (map end_of v)) (sym c.as_slice.ensures.value) c.in_ok-verified.ensures in
    rw (p.1, p.2) (far_broken facts (map words_in rows) (map words_in (take (to - at) (drop at rows))) at to (g.W.Write.contents c.args.output.now) (g.W.Write.contents c.loop-at.output) (g.W.Write.contents c.write_lines.new.output) c.loop-at.written c.loop-at.same ends
    (map end_of c.as_slice.result.now) c.in_err-written.field-0.0 far (rows_between rows at to (omega arith)) outcomes c.in_err-written.ensures.fault)

pub loop-at-preserved : goal.loop-at-preserved
loop-at-preserved g c =
    let (ends, far) = c.loop-at.invariant in
    let facts = g.S.Shelf.facts c.args.shelf.now in
    let rows = c.args.rows.now in
    let at = c.loop-at.at in
    let to = c.loop-at.at + c.min.result in
    let high : c.loop-at.at + c.min.result ≤ length c.args.rows.now = omega (arith, c.loop-at-test.true, c.min.ensures) in
    let outcomes = subst (λ (v : List Verified). AreOutcomes facts (map words_in (take (to - at) (drop at rows))) (map end_of v)) (sym c.as_slice.ensures.value) c.in_ok-verified.ensures in
    let one = c.as_slice-in-loop-at.ensures.value ∙ sym c.as_slice.ensures.value in
    let counted = c.count_same-same.ensures.count ∙ ap (λ (v : List Verified). count_by (λ end. is_same end.outcome) (map end_of v)) one in
    let long = batch_length facts rows at to c.as_slice.result.now (omega arith) high outcomes in
    let few : length c.as_slice-in-loop-at.result.now ≡ length c.as_slice.result.now = ap (λ (v : List Verified). length v) one in (
      ends ++ map end_of c.as_slice.result.now,
      far_more facts (map words_in rows) (map words_in (take (to - at) (drop at rows))) at to (g.W.Write.contents c.args.output.now) (g.W.Write.contents c.loop-at.output) (g.W.Write.contents c.write_lines.new.output) c.loop-at.written c.in_ok-written.written c.loop-at.same
          c.count_same-same.result ends (map end_of c.as_slice.result.now) far (rows_between rows at to (omega arith)) outcomes c.in_ok-written.ensures.all c.in_ok-written.ensures.count counted
          (omega (arith, far.most, c.count_same-same.ensures.most, long, few)) (omega (arith, high, length-map c.args.rows.now words_in)),
    )

pub returns : goal.returns
returns g c =
    let (ends, far) = c.loop-at.invariant in
    let facts = g.S.Shelf.facts c.args.shelf.now in
    let rows = c.args.rows.now in
    let all = far_all facts (map words_in rows) c.loop-at.at (g.W.Write.contents c.args.output.now) (g.W.Write.contents c.loop-at.output) c.loop-at.written c.loop-at.same (length rows) ends far (rows_all rows c.loop-at.at (omega (arith, c.loop-at-test.false)))
    (sym (length-map rows words_in)) in
    all_ended facts (map words_in rows) (g.W.Write.contents c.args.output.now) (g.W.Write.contents c.loop-at.output) (g.W.Write.contents c.write_tally.new.output) c.loop-at.written _ ends c.write_tally.result all c.write_tally.ensures.all c.write_tally.ensures.fault

pub loop-at-smaller : goal.loop-at-smaller
loop-at-smaller g c = grind (arith, common_steps)
