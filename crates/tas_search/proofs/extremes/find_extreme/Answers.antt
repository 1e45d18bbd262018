use Rattle.std.proofs.Common.{◌≡◌, ◌+◌, ◌<◌, ℕ, List, length, get_or, ap, sym, subst, ◌∙◌, arith}
use Rattle.tas_search.specs.declared.arrival.Arrival.{Arrival}
use Rattle.tas_search.specs.Goal.{value_in}
use Rattle.tas_search.specs.Inside.Layers.{layer_of}
use Rattle.tas_search.specs.LayerLines.{state_count}
use Rattle.tas_search.specs.Logs.{log_bytes}
use Rattle.tas_search.specs.declared.logs.Unfinished.TheVariants.{Memory}
use Rattle.tas_search.proofs.CountLemmas.{frontier_states}
use Rattle.tas_search.proofs.LogLemmas.{err_is}
use Rattle.tas_search.proofs.ReportLemmas.{full_more, lines_cut, lines_more, lines_none, lines_whole, none_logged, reported_empty, reported_end, reported_last, reported_stop, some_left, start_full}
use Rattle.tas_search.specs.Inside.Arrivals.{path}
use Rattle.tas_search.proofs.ArrivalLemmas.{last_within}
use Rattle.tas_search.specs.Best.{FitsBelow}
use Rattle.tas_search.proofs.LimitLemmas.{fits_after, fits_here, none_below, nothing_after}
use Rattle.tas_search.proofs.ReachLemmas.{layer_length}
use Rattle.tas_search.proofs.ExtremeLemmas.{extreme_answer, none_reached}
use Rattle.tas_search.proofs.extremes.find_extreme.Goals as goal

pub returns-in-None-clause-found : goal.returns-in-None-clause-found
returns-in-None-clause-found g c =
    let frontier = c.loop-depth.frontier in
    let all : c.loop-depth.frontier.depth ≡ c.args.limits.count = omega (arith, c.loop-depth.invariant.depth) in
    let depth : c.loop-depth.depth ≡ c.args.limits.count = omega arith in (
      (λ ks are same. none_reached c.args.space.now frontier.depth frontier.place frontier.parents.items frontier.layer.keys c.loop-depth.invariant.frontier (ap length (sym c.as_slice.ensures.keys) ∙ c.in-None.ensures) ks are (same ∙ sym all)),
      subst (λ (n : ℕ). FitsBelow c.args.space.now c.args.limits.states (n + 1)) depth c.loop-depth.invariant.fits,
    )

pub path-requires-clause-last : goal.path-requires-clause-last
path-requires-clause-last g c =
    let frontier = c.loop-depth.frontier in
    let h = c.in-Some.ensures in
    rw (c.as_slice-in-Some.ensures.keys, c.deref.ensures.value)
    (last_within c.args.space.now frontier.depth frontier.place frontier.parents.items frontier.layer.keys c.in-Some.i c.index-as_slice-i.result c.loop-depth.invariant.frontier
    (omega (arith, h.within, ap length c.as_slice.ensures.keys)))

pub returns-clause-found : goal.returns-clause-found
returns-clause-found g c =
    let frontier = c.loop-depth.frontier in
    let all : c.loop-depth.frontier.depth ≡ c.args.limits.count = omega (arith, c.loop-depth.invariant.depth) in
    let depth : c.loop-depth.depth ≡ c.args.limits.count = omega arith in (
      extreme_answer c.args.space.now c.args.aim (value_in (g.M.Measure.value c.args.measure.now)) c.args.limits.count frontier.depth frontier.place frontier.parents.items frontier.layer.keys c.in-Some.i
          c.index-as_slice-i.result (get_or c.as_slice-in-Some.result.now c.in-Some.i c.index-as_slice-i.result).step c.in_ok-choices-in-Some.choices.items c.loop-depth.invariant.frontier
          (rw c.as_slice.ensures.keys at c.in-Some.ensures)
          (ap (λ (bs : List Arrival). (get_or bs c.in-Some.i c.index-as_slice-i.result).step) c.as_slice-in-Some.ensures.keys)
          (rw c.deref.ensures.value at c.in_ok-choices-in-Some.ensures) all,
      subst (λ (n : ℕ). FitsBelow c.args.space.now c.args.limits.states (n + 1)) depth c.loop-depth.invariant.fits,
    )

pub loop-depth-preserved : goal.loop-depth-preserved
loop-depth-preserved g c =
    let frontier = c.step.new.frontier in
    let deeper : frontier.depth ≡ c.loop-depth.depth + 1 = omega (arith, c.in_ok-step.ensures.depth c.if-not-branch.false, c.loop-depth.invariant.depth) in
    let some : 0 < state_count c.args.space.now (c.loop-depth.depth + 1) = subst (λ (n : ℕ). 0 < state_count c.args.space.now n) deeper (omega (arith, (frontier_states c.args.space.now c.step.new.frontier.depth c.step.new.frontier.place c.step.new.frontier.parents.items c.step.new.frontier.layer.keys (c.in_ok-step.ensures.moved c.if-not-branch.false)), some_left (length c.step.new.frontier.layer.keys) c.is_empty.result c.is_empty.ensures.1 c.if-is_empty.false)) in
    record {
      frontier = c.in_ok-step.ensures.moved c.if-not-branch.false;
      depth = deeper;
      full = full_more c.args.space.now c.loop-depth.depth c.loop-depth.invariant.full some;
      logged = (lines_more c.args.space.now c.loop-depth.depth c.loop-depth.frontier.depth (log_bytes (g.E.Write.contents c.args.errors.now) (g.P.Write.contents c.args.report.now)) (log_bytes (g.E.Write.contents c.loop-depth.errors) (g.P.Write.contents c.loop-depth.report)) (log_bytes (g.E.Write.contents c.step.new.errors) (g.P.Write.contents c.step.new.report)) c.loop-depth.invariant.depth c.loop-depth.invariant.logged (c.in_ok-step.ensures.line c.if-not-branch.false));
      fits = subst (λ (n : ℕ). FitsBelow c.args.space.now c.args.limits.states (n + 1)) deeper
          (fits_here c.args.space.now c.args.limits.states c.loop-depth.depth frontier.depth deeper c.loop-depth.invariant.fits (c.in_ok-step.ensures.fits c.if-not-branch.false));
    }

pub returns-then-is_empty-clause-found : goal.returns-then-is_empty-clause-found
returns-then-is_empty-clause-found g c =
    let frontier = c.step.new.frontier in
    let moved = c.in_ok-step.ensures.moved c.if-not-branch.false in
    let deeper : frontier.depth ≡ c.loop-depth.depth + 1 = omega (arith, c.in_ok-step.ensures.depth c.if-not-branch.false, c.loop-depth.invariant.depth) in
    let empty : length (layer_of c.args.space.now frontier.depth) ≡ 0 = omega (arith, c.is_empty.ensures.0 c.if-is_empty.true, layer_length c.args.space.now frontier.depth frontier.place frontier.parents.items frontier.layer.keys moved) in (
      (λ ks are same. nothing_after c.args.space.now frontier.depth ks empty are (omega (arith, deeper, same))),
      fits_after c.args.space.now c.args.limits.states frontier.depth (c.args.limits.count + 1) empty
          (subst (FitsBelow c.args.space.now c.args.limits.states) (sym deeper) c.loop-depth.invariant.fits),
    )

pub returns-then-not-branch-clause-reported : goal.returns-then-not-branch-clause-reported
returns-then-not-branch-clause-reported g c =
    reported_stop c.args.space.now c.args.limits.count c.loop-depth.depth (log_bytes (g.E.Write.contents c.args.errors.now) (g.P.Write.contents c.args.report.now)) (log_bytes (g.E.Write.contents c.loop-depth.errors) (g.P.Write.contents c.loop-depth.report)) (log_bytes (g.E.Write.contents c.step.new.errors) (g.P.Write.contents c.step.new.report)) c.loop-depth.invariant.full c.loop-depth.invariant.logged (c.in_ok-step.ensures.none c.if-not-branch.true)

pub returns-in_err-step-clause-cut : goal.returns-in_err-step-clause-cut
returns-in_err-step-clause-cut g c =
    err_is _ c.in_err-step.field-0.0 _ c.from_residual-in_err-step.ensures.1 (lines_cut c.args.space.now c.args.limits.count c.args.limits.states c.in_err-step.field-0.0 c.loop-depth.depth c.loop-depth.frontier.depth (log_bytes (g.E.Write.contents c.args.errors.now) (g.P.Write.contents c.args.report.now)) (log_bytes (g.E.Write.contents c.loop-depth.errors) (g.P.Write.contents c.loop-depth.report)) (log_bytes (g.E.Write.contents c.step.new.errors) (g.P.Write.contents c.step.new.report)) c.loop-depth.invariant.depth (omega (arith, c.loop-depth-test.true)) c.loop-depth.invariant.full c.loop-depth.invariant.fits c.in_err-step.ensures.kept c.loop-depth.invariant.logged c.in_err-step.ensures.cut)

pub returns-in_err-frontier-clause-cut : goal.returns-in_err-frontier-clause-cut
returns-in_err-frontier-clause-cut g c = err_is _ Memory _ c.from_residual.ensures.1 (lines_none c.args.space.now c.args.limits.count c.args.limits.states (log_bytes (g.E.Write.contents c.args.errors.now) (g.P.Write.contents c.args.report.now)))

pub returns-then-is_empty-clause-reported : goal.returns-then-is_empty-clause-reported
returns-then-is_empty-clause-reported g c =
    let deeper : c.step.new.frontier.depth ≡ c.loop-depth.depth + 1 = omega (arith, c.in_ok-step.ensures.depth c.if-not-branch.false, c.loop-depth.invariant.depth) in
    let none : state_count c.args.space.now (c.loop-depth.depth + 1) ≡ 0 = subst (λ (n : ℕ). state_count c.args.space.now n ≡ 0) deeper (omega (arith, (frontier_states c.args.space.now c.step.new.frontier.depth c.step.new.frontier.place c.step.new.frontier.parents.items c.step.new.frontier.layer.keys (c.in_ok-step.ensures.moved c.if-not-branch.false)), c.is_empty.ensures.0 c.if-is_empty.true)) in
    reported_empty c.args.space.now c.args.limits.count c.loop-depth.depth (log_bytes (g.E.Write.contents c.args.errors.now) (g.P.Write.contents c.args.report.now)) (log_bytes (g.E.Write.contents c.step.new.errors) (g.P.Write.contents c.step.new.report)) (omega (arith, c.loop-depth-test.true)) c.loop-depth.invariant.full none (lines_more c.args.space.now c.loop-depth.depth c.loop-depth.frontier.depth (log_bytes (g.E.Write.contents c.args.errors.now) (g.P.Write.contents c.args.report.now)) (log_bytes (g.E.Write.contents c.loop-depth.errors) (g.P.Write.contents c.loop-depth.report)) (log_bytes (g.E.Write.contents c.step.new.errors) (g.P.Write.contents c.step.new.report)) c.loop-depth.invariant.depth c.loop-depth.invariant.logged (c.in_ok-step.ensures.line c.if-not-branch.false))

pub loop-depth-init : goal.loop-depth-init
loop-depth-init g c = record {
  frontier = c.in_ok-frontier.ensures.frontier;
  depth = c.in_ok-frontier.ensures.depth;
  fits = none_below c.args.space.now c.args.limits.states;
  full = start_full c.args.space.now;
  logged = none_logged c.args.space.now (log_bytes (g.E.Write.contents c.args.errors.now) (g.P.Write.contents c.args.report.now));
}

pub returns-in-None-clause-reported : goal.returns-in-None-clause-reported
returns-in-None-clause-reported g c = reported_end c.args.space.now c.args.limits.count c.loop-depth.depth (log_bytes (g.E.Write.contents c.args.errors.now) (g.P.Write.contents c.args.report.now)) (log_bytes (g.E.Write.contents c.loop-depth.errors) (g.P.Write.contents c.loop-depth.report)) (omega arith) c.loop-depth.invariant.full c.loop-depth.invariant.logged

pub returns-clause-reported : goal.returns-clause-reported
returns-clause-reported g c =
    let found = rw c.deref.ensures.value at c.in_ok-choices-in-Some.ensures in
    reported_last c.args.space.now c.args.limits.count c.loop-depth.depth c.in_ok-choices-in-Some.choices.items c.loop-depth.frontier.parents.items (get_or c.as_slice-in-Some.result.now c.in-Some.i c.index-as_slice-i.result).step (log_bytes (g.E.Write.contents c.args.errors.now) (g.P.Write.contents c.args.report.now)) (log_bytes (g.E.Write.contents c.loop-depth.errors) (g.P.Write.contents c.loop-depth.report)) c.loop-depth.invariant.full (found ∙ ap (λ (n : ℕ). path c.loop-depth.frontier.parents.items n (get_or c.as_slice-in-Some.result.now c.in-Some.i c.index-as_slice-i.result).step) c.loop-depth.invariant.depth) c.loop-depth.invariant.logged

pub returns-in_err-choices-in-Some-clause-cut : goal.returns-in_err-choices-in-Some-clause-cut
returns-in_err-choices-in-Some-clause-cut g c = err_is _ Memory _ c.from_residual-in_err-choices-in-Some.ensures.1 (lines_whole c.args.space.now c.args.limits.count c.args.limits.states c.loop-depth.depth (log_bytes (g.E.Write.contents c.args.errors.now) (g.P.Write.contents c.args.report.now)) (log_bytes (g.E.Write.contents c.loop-depth.errors) (g.P.Write.contents c.loop-depth.report)) (omega arith) (λ k lt. c.loop-depth.invariant.full k (omega arith)) c.loop-depth.invariant.fits c.loop-depth.invariant.logged)
