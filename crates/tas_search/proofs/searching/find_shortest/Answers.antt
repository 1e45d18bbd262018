use Rattle.std.proofs.lemmas.Grind.{common_steps}
use Rattle.std.proofs.Common.{◌≡◌, ◌+◌, ◌<◌, ℕ, List, Some, None, length, get_or, refl, ap, sym, subst, ◌∙◌, arith}
use Rattle.std.specs.List.{position}
use Rattle.std.proofs.lemmas.List.Quantifiers.{position-Some}
use Rattle.tas_search.specs.declared.arrival.Arrival.{Arrival}
use Rattle.tas_search.specs.Best.{FitsBelow, NeedsAtLeast, ReachMoreThan}
use Rattle.tas_search.specs.Goal.{holds_of}
use Rattle.tas_search.specs.Inside.Layers.{layer_of}
use Rattle.tas_search.specs.LayerLines.{state_count}
use Rattle.tas_search.specs.Logs.{log_bytes}
use Rattle.tas_search.specs.declared.logs.Unfinished.TheVariants.{Memory}
use Rattle.tas_search.proofs.CountLemmas.{frontier_states}
use Rattle.tas_search.proofs.LogLemmas.{err_is}
use Rattle.tas_search.proofs.ReportLemmas.{full_more, lines_cut, lines_more, lines_none, lines_whole, none_logged, reported_best, reported_empty, reported_end, reported_start, reported_stop, some_left, start_full}
use Rattle.tas_search.specs.Inside.Arrivals.{path}
use Rattle.tas_search.proofs.ArrivalLemmas.{last_within}
use Rattle.tas_search.proofs.SearchLemmas.{place_within}
use Rattle.tas_search.proofs.ReachLemmas.{best_answer, layer_length, none_found, start_fails}
use Rattle.tas_search.proofs.LimitLemmas.{fits_after, fits_here, needs_after, none_below}
use Rattle.tas_search.proofs.searching.find_shortest.Goals as goal

pub path-requires-clause-last : goal.path-requires-clause-last
path-requires-clause-last g c =
    let frontier = c.step.new.frontier in
    let moved = c.in_ok-step.ensures.moved c.if-not-branch.false in
    let found : position (λ (a : Arrival). holds_of (g.M.Measure.value c.args.goal.now) a.state) c.as_slice.result.now ≡ Some c.in-Some.i = sym c.first_meeting.ensures ∙ c.in-Some.is in
    let first = position-Some (λ (a : Arrival). holds_of (g.M.Measure.value c.args.goal.now) a.state) c.as_slice.result.now c.in-Some.i c.index-as_slice-i.result found in
    rw (c.as_slice-in-Some.ensures.keys, c.deref.ensures.value)
    (last_within c.args.space.now frontier.depth frontier.place frontier.parents.items frontier.layer.keys c.in-Some.i c.index-as_slice-i.result moved
    (omega (arith, first.0, ap length c.as_slice.ensures.keys)))

pub returns-in-Some-clause-found : goal.returns-in-Some-clause-found
returns-in-Some-clause-found g c =
    let frontier = c.step.new.frontier in
    let moved = c.in_ok-step.ensures.moved c.if-not-branch.false in
    let deeper : frontier.depth ≡ c.loop-depth.depth + 1 = omega (arith, c.in_ok-step.ensures.depth c.if-not-branch.false, c.loop-depth.invariant.depth) in
    let found : position (λ (a : Arrival). holds_of (g.M.Measure.value c.args.goal.now) a.state) c.as_slice.result.now ≡ Some c.in-Some.i = sym c.first_meeting.ensures ∙ c.in-Some.is in
    best_answer c.args.space.now (holds_of (g.M.Measure.value c.args.goal.now)) c.args.limits.count c.args.limits.states frontier.depth frontier.place frontier.parents.items frontier.layer.keys c.in-Some.i c.index-as_slice-i.result
    (get_or c.as_slice-in-Some.result.now c.in-Some.i c.index-as_slice-i.result).step c.in_ok-choices.choices.items moved
    (subst (NeedsAtLeast c.args.space.now (holds_of (g.M.Measure.value c.args.goal.now))) (sym deeper) c.loop-depth.invariant.least)
    (rw c.as_slice.ensures.keys at found)
    (ap (λ (bs : List Arrival). (get_or bs c.in-Some.i c.index-as_slice-i.result).step) c.as_slice-in-Some.ensures.keys)
    (rw c.deref.ensures.value at c.in_ok-choices.ensures) (omega (arith, deeper))
    (fits_here c.args.space.now c.args.limits.states c.loop-depth.depth frontier.depth deeper c.loop-depth.invariant.fits (c.in_ok-step.ensures.fits c.if-not-branch.false))

pub loop-depth-preserved : goal.loop-depth-preserved
loop-depth-preserved g c =
    let frontier = c.step.new.frontier in
    let moved = c.in_ok-step.ensures.moved c.if-not-branch.false in
    let deeper : frontier.depth ≡ c.loop-depth.depth + 1 = omega (arith, c.in_ok-step.ensures.depth c.if-not-branch.false, c.loop-depth.invariant.depth) in
    let none : position (λ (a : Arrival). holds_of (g.M.Measure.value c.args.goal.now) a.state) c.as_slice.result.now ≡ None = sym c.first_meeting.ensures ∙ c.in_default.is in
    let some : 0 < state_count c.args.space.now (c.loop-depth.depth + 1) = subst (λ (n : ℕ). 0 < state_count c.args.space.now n) deeper (omega (arith, (frontier_states c.args.space.now c.step.new.frontier.depth c.step.new.frontier.place c.step.new.frontier.parents.items c.step.new.frontier.layer.keys (c.in_ok-step.ensures.moved c.if-not-branch.false)), some_left (length c.step.new.frontier.layer.keys) c.is_empty.result c.is_empty.ensures.1 c.if-is_empty.false)) in
    record {
      frontier = moved;
      depth = deeper;
      least =
          subst (λ (n : ℕ). NeedsAtLeast c.args.space.now (holds_of (g.M.Measure.value c.args.goal.now)) (n + 1)) deeper
          (none_found c.args.space.now (holds_of (g.M.Measure.value c.args.goal.now)) frontier.depth frontier.place frontier.parents.items frontier.layer.keys moved
          (subst (NeedsAtLeast c.args.space.now (holds_of (g.M.Measure.value c.args.goal.now))) (sym deeper) c.loop-depth.invariant.least)
          (rw c.as_slice.ensures.keys at none));
      full = full_more c.args.space.now c.loop-depth.depth c.loop-depth.invariant.full some;
      logged = (lines_more c.args.space.now c.loop-depth.depth c.loop-depth.frontier.depth (log_bytes (g.E.Write.contents c.args.errors.now) (g.P.Write.contents c.args.report.now)) (log_bytes (g.E.Write.contents c.loop-depth.errors) (g.P.Write.contents c.loop-depth.report)) (log_bytes (g.E.Write.contents c.step.new.errors) (g.P.Write.contents c.step.new.report)) c.loop-depth.invariant.depth c.loop-depth.invariant.logged (c.in_ok-step.ensures.line c.if-not-branch.false));
      fits = subst (λ (n : ℕ). FitsBelow c.args.space.now c.args.limits.states (n + 1)) deeper
          (fits_here c.args.space.now c.args.limits.states c.loop-depth.depth frontier.depth deeper c.loop-depth.invariant.fits (c.in_ok-step.ensures.fits c.if-not-branch.false));
    }

pub returns-then-is_empty-clause-found : goal.returns-then-is_empty-clause-found
returns-then-is_empty-clause-found g c =
    let frontier = c.step.new.frontier in
    let moved = c.in_ok-step.ensures.moved c.if-not-branch.false in
    let deeper : frontier.depth ≡ c.loop-depth.depth + 1 = omega (arith, c.in_ok-step.ensures.depth c.if-not-branch.false, c.loop-depth.invariant.depth) in
    let empty : length (layer_of c.args.space.now frontier.depth) ≡ 0 = omega (arith, c.is_empty.ensures.0 c.if-is_empty.true, layer_length c.args.space.now frontier.depth frontier.place frontier.parents.items frontier.layer.keys moved) in (
      needs_after c.args.space.now (holds_of (g.M.Measure.value c.args.goal.now)) frontier.depth (c.args.limits.count + 1) empty
          (subst (NeedsAtLeast c.args.space.now (holds_of (g.M.Measure.value c.args.goal.now))) (sym deeper) c.loop-depth.invariant.least),
      fits_after c.args.space.now c.args.limits.states frontier.depth (c.args.limits.count + 1) empty
          (subst (FitsBelow c.args.space.now c.args.limits.states) (sym deeper) c.loop-depth.invariant.fits),
    )

pub returns-clause-found : goal.returns-clause-found
returns-clause-found g c =
    let all : c.loop-depth.depth ≡ c.args.limits.count = omega arith in (
      subst (λ (n : ℕ). NeedsAtLeast c.args.space.now (holds_of (g.M.Measure.value c.args.goal.now)) (n + 1)) all c.loop-depth.invariant.least,
      subst (λ (n : ℕ). FitsBelow c.args.space.now c.args.limits.states (n + 1)) all c.loop-depth.invariant.fits,
    )

pub loop-depth-init : goal.loop-depth-init
loop-depth-init g c = record {
  frontier = c.in_ok-frontier.ensures.frontier;
  depth = c.in_ok-frontier.ensures.depth;
  least = start_fails c.args.space.now (holds_of (g.M.Measure.value c.args.goal.now)) (ap (holds_of (g.M.Measure.value c.args.goal.now)) (sym c.start.ensures ∙ sym c.pack.ensures) ∙ sym c.holds.ensures ∙ c.if-holds.false);
  fits = none_below c.args.space.now c.args.limits.states;
  full = start_full c.args.space.now;
  logged = none_logged c.args.space.now (log_bytes (g.E.Write.contents c.args.errors.now) (g.P.Write.contents c.args.report.now));
}

pub returns-then-holds-clause-found : goal.returns-then-holds-clause-found
returns-then-holds-clause-found g c = grind (arith, common_steps)

pub returns-then-not-branch-clause-found : goal.returns-then-not-branch-clause-found
returns-then-not-branch-clause-found g c = grind (arith, common_steps)

pub returns-then-not-branch-clause-reported : goal.returns-then-not-branch-clause-reported
returns-then-not-branch-clause-reported g c =
    reported_stop c.args.space.now c.args.limits.count c.loop-depth.depth (log_bytes (g.E.Write.contents c.args.errors.now) (g.P.Write.contents c.args.report.now)) (log_bytes (g.E.Write.contents c.loop-depth.errors) (g.P.Write.contents c.loop-depth.report)) (log_bytes (g.E.Write.contents c.step.new.errors) (g.P.Write.contents c.step.new.report)) c.loop-depth.invariant.full c.loop-depth.invariant.logged (c.in_ok-step.ensures.none c.if-not-branch.true)

pub returns-in_err-step-clause-cut : goal.returns-in_err-step-clause-cut
returns-in_err-step-clause-cut g c =
    err_is _ c.in_err-step.field-0.0 _ c.from_residual-in_err-step.ensures.1 (lines_cut c.args.space.now c.args.limits.count c.args.limits.states c.in_err-step.field-0.0 c.loop-depth.depth c.loop-depth.frontier.depth (log_bytes (g.E.Write.contents c.args.errors.now) (g.P.Write.contents c.args.report.now)) (log_bytes (g.E.Write.contents c.loop-depth.errors) (g.P.Write.contents c.loop-depth.report)) (log_bytes (g.E.Write.contents c.step.new.errors) (g.P.Write.contents c.step.new.report)) c.loop-depth.invariant.depth (omega (arith, c.loop-depth-test.true)) c.loop-depth.invariant.full c.loop-depth.invariant.fits c.in_err-step.ensures.kept c.loop-depth.invariant.logged c.in_err-step.ensures.cut)

pub returns-in_err-frontier-clause-cut : goal.returns-in_err-frontier-clause-cut
returns-in_err-frontier-clause-cut g c = err_is _ Memory _ c.from_residual.ensures.1 (lines_none c.args.space.now c.args.limits.count c.args.limits.states (log_bytes (g.E.Write.contents c.args.errors.now) (g.P.Write.contents c.args.report.now)))

pub returns-then-is_empty-clause-reported : goal.returns-then-is_empty-clause-reported
returns-then-is_empty-clause-reported g c =
    let deeper : c.step.new.frontier.depth ≡ c.loop-depth.depth + 1 = omega (arith, c.in_ok-step.ensures.depth c.if-not-branch.false, c.loop-depth.invariant.depth) in
    let none : state_count c.args.space.now (c.loop-depth.depth + 1) ≡ 0 = subst (λ (n : ℕ). state_count c.args.space.now n ≡ 0) deeper (omega (arith, (frontier_states c.args.space.now c.step.new.frontier.depth c.step.new.frontier.place c.step.new.frontier.parents.items c.step.new.frontier.layer.keys (c.in_ok-step.ensures.moved c.if-not-branch.false)), c.is_empty.ensures.0 c.if-is_empty.true)) in
    reported_empty c.args.space.now c.args.limits.count c.loop-depth.depth (log_bytes (g.E.Write.contents c.args.errors.now) (g.P.Write.contents c.args.report.now)) (log_bytes (g.E.Write.contents c.step.new.errors) (g.P.Write.contents c.step.new.report)) (omega (arith, c.loop-depth-test.true)) c.loop-depth.invariant.full none (lines_more c.args.space.now c.loop-depth.depth c.loop-depth.frontier.depth (log_bytes (g.E.Write.contents c.args.errors.now) (g.P.Write.contents c.args.report.now)) (log_bytes (g.E.Write.contents c.loop-depth.errors) (g.P.Write.contents c.loop-depth.report)) (log_bytes (g.E.Write.contents c.step.new.errors) (g.P.Write.contents c.step.new.report)) c.loop-depth.invariant.depth c.loop-depth.invariant.logged (c.in_ok-step.ensures.line c.if-not-branch.false))

pub returns-clause-reported : goal.returns-clause-reported
returns-clause-reported g c = reported_end c.args.space.now c.args.limits.count c.loop-depth.depth (log_bytes (g.E.Write.contents c.args.errors.now) (g.P.Write.contents c.args.report.now)) (log_bytes (g.E.Write.contents c.loop-depth.errors) (g.P.Write.contents c.loop-depth.report)) (omega arith) c.loop-depth.invariant.full c.loop-depth.invariant.logged

pub returns-then-holds-clause-reported : goal.returns-then-holds-clause-reported
returns-then-holds-clause-reported g c = reported_start c.args.space.now c.args.limits.count c.new.result.items (log_bytes (g.E.Write.contents c.args.errors.now) (g.P.Write.contents c.args.report.now)) c.new.ensures.items

pub returns-in-Some-clause-reported : goal.returns-in-Some-clause-reported
returns-in-Some-clause-reported g c =
    let deeper : c.step.new.frontier.depth ≡ c.loop-depth.depth + 1 = omega (arith, c.in_ok-step.ensures.depth c.if-not-branch.false, c.loop-depth.invariant.depth) in
    let found = rw c.deref.ensures.value at c.in_ok-choices.ensures in
    reported_best c.args.space.now c.args.limits.count c.loop-depth.depth c.in_ok-choices.choices.items c.step.new.frontier.parents.items (get_or c.as_slice-in-Some.result.now c.in-Some.i c.index-as_slice-i.result).step (log_bytes (g.E.Write.contents c.args.errors.now) (g.P.Write.contents c.args.report.now)) (log_bytes (g.E.Write.contents c.step.new.errors) (g.P.Write.contents c.step.new.report)) c.loop-depth.invariant.full (found ∙ ap (λ (n : ℕ). path c.step.new.frontier.parents.items n (get_or c.as_slice-in-Some.result.now c.in-Some.i c.index-as_slice-i.result).step) deeper) (lines_more c.args.space.now c.loop-depth.depth c.loop-depth.frontier.depth (log_bytes (g.E.Write.contents c.args.errors.now) (g.P.Write.contents c.args.report.now)) (log_bytes (g.E.Write.contents c.loop-depth.errors) (g.P.Write.contents c.loop-depth.report)) (log_bytes (g.E.Write.contents c.step.new.errors) (g.P.Write.contents c.step.new.report)) c.loop-depth.invariant.depth c.loop-depth.invariant.logged (c.in_ok-step.ensures.line c.if-not-branch.false))

pub returns-in_err-choices-clause-cut : goal.returns-in_err-choices-clause-cut
returns-in_err-choices-clause-cut g c =
    let deeper : c.step.new.frontier.depth ≡ c.loop-depth.depth + 1 = omega (arith, c.in_ok-step.ensures.depth c.if-not-branch.false, c.loop-depth.invariant.depth) in
    err_is _ Memory _ c.from_residual-in_err-choices.ensures.1 (lines_whole c.args.space.now c.args.limits.count c.args.limits.states (c.loop-depth.depth + 1) (log_bytes (g.E.Write.contents c.args.errors.now) (g.P.Write.contents c.args.report.now)) (log_bytes (g.E.Write.contents c.step.new.errors) (g.P.Write.contents c.step.new.report)) (omega (arith, c.loop-depth-test.true)) (λ k lt. c.loop-depth.invariant.full k (omega arith)) (fits_here c.args.space.now c.args.limits.states c.loop-depth.depth (c.loop-depth.depth + 1) refl c.loop-depth.invariant.fits (subst (λ (n : ℕ). ReachMoreThan c.args.space.now n c.args.limits.states → ⊥) deeper (c.in_ok-step.ensures.fits c.if-not-branch.false))) (lines_more c.args.space.now c.loop-depth.depth c.loop-depth.frontier.depth (log_bytes (g.E.Write.contents c.args.errors.now) (g.P.Write.contents c.args.report.now)) (log_bytes (g.E.Write.contents c.loop-depth.errors) (g.P.Write.contents c.loop-depth.report)) (log_bytes (g.E.Write.contents c.step.new.errors) (g.P.Write.contents c.step.new.report)) c.loop-depth.invariant.depth c.loop-depth.invariant.logged (c.in_ok-step.ensures.line c.if-not-branch.false)))

pub offset_bounds-as_slice-i : goal.offset_bounds-as_slice-i
offset_bounds-as_slice-i g c =
    let found : position (λ (a : Arrival). holds_of (g.M.Measure.value c.args.goal.now) a.state) c.as_slice.result.now ≡ Some c.in-Some.i = sym c.first_meeting.ensures ∙ c.in-Some.is in
    let within = place_within (λ (a : Arrival). holds_of (g.M.Measure.value c.args.goal.now) a.state) c.as_slice.result.now c.in-Some.i found in
    omega (arith, within, ap length c.as_slice.ensures.keys, ap length c.as_slice-in-Some.ensures.keys)

pub bounds-as_slice-i : goal.bounds-as_slice-i
bounds-as_slice-i g c =
    let found : position (λ (a : Arrival). holds_of (g.M.Measure.value c.args.goal.now) a.state) c.as_slice.result.now ≡ Some c.in-Some.i = sym c.first_meeting.ensures ∙ c.in-Some.is in
    let within = place_within (λ (a : Arrival). holds_of (g.M.Measure.value c.args.goal.now) a.state) c.as_slice.result.now c.in-Some.i found in
    omega (arith, within, ap length c.as_slice.ensures.keys, ap length c.as_slice-in-Some.ensures.keys)

pub bounds-as_slice-i-in-Some : goal.bounds-as_slice-i-in-Some
bounds-as_slice-i-in-Some g c =
    let found : position (λ (a : Arrival). holds_of (g.M.Measure.value c.args.goal.now) a.state) c.as_slice.result.now ≡ Some c.in-Some.i = sym c.first_meeting.ensures ∙ c.in-Some.is in
    let within = place_within (λ (a : Arrival). holds_of (g.M.Measure.value c.args.goal.now) a.state) c.as_slice.result.now c.in-Some.i found in
    omega (arith, within, ap length c.as_slice.ensures.keys, ap length c.as_slice-in-Some.ensures.keys)
