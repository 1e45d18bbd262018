use Rattle.std.proofs.Common.{ℕ, refl, subst, ◌∙◌}
use Rattle.tas_search.specs.declared.logs.Unfinished.TheVariants.{Memory}
use Rattle.tas_search.specs.Best.{ReachMoreThan}
use Rattle.tas_search.specs.Logs.{Logged, StopsLogging, log_bytes}
use Rattle.tas_search.proofs.CountLemmas.{line_is}
use Rattle.tas_search.proofs.LogLemmas.{err_is, memory_is_no_report}
use Rattle.tas_search.proofs.frontier.step.Goals as goal

pub returns-in_err-counts-clause-cut : goal.returns-in_err-counts-clause-cut
returns-in_err-counts-clause-cut g c = err_is c.from_residual.result Memory _ c.from_residual.ensures.1 (0, refl)

pub returns-in_err-line-clause-cut : goal.returns-in_err-line-clause-cut
returns-in_err-line-clause-cut g c = err_is c.from_residual-in_err-line.result Memory _ c.from_residual-in_err-line.ensures.1 (0, refl)

pub returns-in_err-write_line-clause-cut : goal.returns-in_err-write_line-clause-cut
returns-in_err-write_line-clause-cut g c =
    let depth = rw c.in-Some.is at c.in_ok-counts.ensures.depth in
    let counts = rw c.in-Some.is at c.in_ok-counts.ensures.counts in
    let is = line_is c.args.space.now c.args.frontier.now.depth c.advance.new.frontier.depth c.hold.result c.nanos_between-nanos.result c.in-Some.counts c.in_ok-line.line.items depth c.hold.ensures counts c.in_ok-line.ensures in
    let fault = c.in_err-write_line.ensures.fault in
    let stops = subst (StopsLogging (log_bytes (g.E.Write.contents c.args.errors.now) (g.P.Write.contents c.args.report.now)) (log_bytes (g.E.Write.contents c.write_line.new.errors) (g.P.Write.contents c.write_line.new.report))) (c.as_slice.ensures.value ∙ is) fault.1 in
    err_is c.from_residual-in_err-write_line.result c.in_err-write_line.field-0.0 _ c.from_residual-in_err-write_line.ensures.1 (c.nanos_between-nanos.result, rw fault.0 stops)

pub returns-in_err-counts-clause-kept : goal.returns-in_err-counts-clause-kept
returns-in_err-counts-clause-kept g c = err_is c.from_residual.result Memory _ c.from_residual.ensures.1 memory_is_no_report

pub returns-in_err-line-clause-kept : goal.returns-in_err-line-clause-kept
returns-in_err-line-clause-kept g c = err_is c.from_residual-in_err-line.result Memory _ c.from_residual-in_err-line.ensures.1 memory_is_no_report

pub returns-in_err-write_line-clause-kept : goal.returns-in_err-write_line-clause-kept
returns-in_err-write_line-clause-kept g c =
    let depth = rw c.in-Some.is at c.in_ok-counts.ensures.depth in
    let fits = rw c.in-Some.is at c.in_ok-counts.ensures.fits in
    err_is c.from_residual-in_err-write_line.result c.in_err-write_line.field-0.0 _ c.from_residual-in_err-write_line.ensures.1
    (λ same. subst (λ (n : ℕ). ReachMoreThan c.args.space.now n c.args.limits.states → ⊥) depth fits)

pub returns-clause-line : goal.returns-clause-line
returns-clause-line g c = λ moved.
    let depth = rw c.in-Some.is at c.in_ok-counts.ensures.depth in
    let counts = rw c.in-Some.is at c.in_ok-counts.ensures.counts in
    let is = line_is c.args.space.now c.args.frontier.now.depth c.advance.new.frontier.depth c.hold.result c.nanos_between-nanos.result c.in-Some.counts c.in_ok-line.line.items depth c.hold.ensures counts c.in_ok-line.ensures in
    (c.nanos_between-nanos.result, subst (Logged (log_bytes (g.E.Write.contents c.args.errors.now) (g.P.Write.contents c.args.report.now)) (log_bytes (g.E.Write.contents c.write_line.new.errors) (g.P.Write.contents c.write_line.new.report))) (c.as_slice.ensures.value ∙ is) c.in_ok-write_line.ensures.ok)
