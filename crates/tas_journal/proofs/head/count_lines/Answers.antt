use Rattle.std.proofs.Common.{length, ap, sym, ◌∙◌, arith}
use Rattle.std.proofs.lemmas.Bool.{eqb-true}
use Rattle.tas_journal.proofs.RecoverLemmas.{next_lines, no_lines, shorter_line, empty_lines}
use Rattle.tas_journal.proofs.head.count_lines.Goals as goal

pub loop-rest-preserved : goal.loop-rest-preserved
loop-rest-preserved c =
    let more = ap length (next_lines c.loop-rest.rest.now _ c.in-Some.after.now c.in-Some.ensures.some.0 c.in-Some.ensures.some.1) in
    let lines = c.loop-rest.invariant.lines in
    let fits = c.loop-rest.invariant.fits in
    record {
      lines = omega (arith, more, lines);
      fits = omega (arith, fits, shorter_line c.loop-rest.rest.now _ c.in-Some.after.now c.in-Some.ensures.some.0);
    }

pub loop-rest-smaller : goal.loop-rest-smaller
loop-rest-smaller c = shorter_line c.loop-rest.rest.now _ c.in-Some.after.now c.in-Some.ensures.some.0

pub returns-in_default-clause-lines : goal.returns-in_default-clause-lines
returns-in_default-clause-lines c =
    let none = ap length (no_lines c.loop-rest.rest.now c.in_default.ensures.none) in
    let lines = c.loop-rest.invariant.lines in
    omega (arith, none, lines)

pub returns-clause-lines : goal.returns-clause-lines
returns-clause-lines c =
    let none = ap length (empty_lines c.loop-rest.rest.now (eqb-true _ _ (sym c.loop-rest-test.ensures))) in
    let lines = c.loop-rest.invariant.lines in
    omega (arith, none, lines)
