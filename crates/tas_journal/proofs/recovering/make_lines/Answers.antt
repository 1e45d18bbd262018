use Rattle.std.proofs.Common.{◌≡◌, ◌+◌, length, refl, sym, ap, ◌∙◌, arith}
use Rattle.std.proofs.lemmas.Bool.{eqb-false, eqb-true, not-true}
use Rattle.tas_journal.proofs.RecoverLemmas.{begins, goes_on, stops, ends, full, next_lines, next_rest, no_lines, only_rest, shorter_line, wrong_line, edits_all, edits_most, cut_here, not_cut, full_not_cut, not_false}
use Rattle.tas_journal.proofs.recovering.make_lines.Goals as goal

pub loop-edits-init : goal.loop-edits-init
loop-edits-init g c = record {
  made = λ result h. begins g.row.A.Denot c.args.first c.args.most c.args.movie.now c.args.text.now result h;
  lines = omega arith;
  last = refl;
  bound = omega arith;
  fits = omega arith;
}

pub loop-edits-preserved : goal.loop-edits-preserved
loop-edits-preserved g c =
    let rest = c.loop-edits.rest.now in
    let said = c.in-Some.said.now in
    let after = c.in-Some.after.now in
    let is = c.in-Some.ensures.some.0 in
    let none = c.in-Some.ensures.some.1 in
    let before = c.loop-edits.invariant.lines in
    let fits = c.loop-edits.invariant.fits in
    let more = ap length (next_lines rest said after is none) in
    record {
      made = λ result h. c.loop-edits.invariant.made result
          (goes_on g.row.A.Denot c.args.first c.loop-edits.edits c.args.most c.loop-edits.movie c.make_line.new.movie rest said after result is none c.loop-edits-test.true c.in-Ok.ensures.made h);
      lines = omega (arith, before, more);
      last = c.loop-edits.invariant.last ∙ next_rest rest said after is none;
      bound = omega (arith, c.loop-edits-test.true);
      fits = omega (arith, fits, shorter_line rest said after is);
    }

pub returns-in-Err-clause-wrong : goal.returns-in-Err-clause-wrong
returns-in-Err-clause-wrong g c =
    rw c.error_at.ensures
    (wrong_line (c.args.first + c.loop-edits.edits) _ _ c.in-Err.error c.in-Err.ensures.wrong
    (λ kind one. c.loop-edits.invariant.made _
    (stops g.row.A.Denot c.args.first c.loop-edits.edits c.args.most c.loop-edits.movie c.loop-edits.rest.now c.in-Some.said.now c.in-Some.after.now kind c.in-Some.ensures.some.0 c.in-Some.ensures.some.1 c.loop-edits-test.true one)))

pub returns-in_default-clause-made : goal.returns-in_default-clause-made
returns-in_default-clause-made g c =
    c.loop-edits.invariant.made _ (ends g.row.A.Denot c.args.first c.loop-edits.edits c.args.most c.loop-edits.movie c.loop-edits.rest.now c.in_default.ensures.none)

pub returns-clause-made : goal.returns-clause-made
returns-clause-made g c =
    c.loop-edits.invariant.made _ (full g.row.A.Denot c.args.first c.loop-edits.edits c.args.most c.loop-edits.movie c.loop-edits.rest.now (omega (arith, c.loop-edits-test.false)))

pub returns-in_default-clause-edits : goal.returns-in_default-clause-edits
returns-in_default-clause-edits g c =
    let before = c.loop-edits.invariant.lines in
    let none = ap length (no_lines c.loop-edits.rest.now c.in_default.ensures.none) in
    edits_all c.args.most c.loop-edits.edits _ (omega (arith, before, none)) c.loop-edits.invariant.bound

pub returns-in_default-clause-cut : goal.returns-in_default-clause-cut
returns-in_default-clause-cut g c = λ e.
    cut_here c.args.most c.loop-edits.edits c.args.text.now c.loop-edits.rest.now c.loop-edits.invariant.lines c.loop-edits.invariant.last c.in_default.ensures.none c.loop-edits-test.true (eqb-false _ _ (sym c.is_empty-cut.ensures ∙ not-true _ e))

pub returns-in_default-clause-whole : goal.returns-in_default-clause-whole
returns-in_default-clause-whole g c = λ e.
    not_cut c.args.most c.args.text.now c.loop-edits.rest.now c.loop-edits.invariant.last c.in_default.ensures.none (eqb-true _ _ (sym c.is_empty-cut.ensures ∙ not_false _ e))

pub returns-clause-edits : goal.returns-clause-edits
returns-clause-edits g c =
    let before = c.loop-edits.invariant.lines in
    edits_most c.args.most c.loop-edits.edits _ (omega (arith, c.loop-edits-test.false)) c.loop-edits.invariant.bound (omega (arith, before))

pub returns-clause-whole : goal.returns-clause-whole
returns-clause-whole g c = λ e. full_not_cut c.args.most c.loop-edits.edits c.args.text.now c.loop-edits.rest.now c.loop-edits.invariant.lines (omega (arith, c.loop-edits-test.false))
