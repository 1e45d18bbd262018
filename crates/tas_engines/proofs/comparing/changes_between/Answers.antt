use Rattle.std.proofs.lemmas.Grind.{common_steps}
use Rattle.std.proofs.Common.{◌≡◌, ◌≤◌, ◌+◌, ◌-◌, ℕ, List, length, take, drop, Option, Some, None, refl, sym, subst, arith, length-take}
use Rattle.std.proofs.lemmas.List.{length-drop}
use Rattle.tas_movie.specs.declared.run.FrameRun.{FrameRun}
use Rattle.tas_language.specs.declared.change.Change.{Change}
use Rattle.tas_engines.specs.declared.stages.Stage.{Stage}
use Rattle.tas_engines.specs.declared.stages.Step.{Step}
use Rattle.tas_engines.specs.Hunks.{HasRoom, lengths_at, IsNextStep}
use Rattle.tas_engines.proofs.DifferenceLemmas.{first_gap, plain_end, reached_first}
use Rattle.tas_engines.proofs.StageLemmas.{Walked, walked_first, may_step, plain_step, step_gap, walked_on, walked_last}
use Rattle.tas_engines.proofs.comparing.changes_between.Goals as goal

pub loop-step-init : goal.loop-step-init
loop-step-init g c =
    let old = c.args.old.now in
    let new = c.args.new.now in
    let front = c.common_front-front.result in
    let end = c.common_end-end.result in
    subst (λ (l : List Change). Walked old new front end c.in_ok-old_runs.old_runs.items c.in_ok-new_runs.new_runs.items (record { runs = record { old = 0; new = 0 }; gap = first_gap old new front end }) l) (sym c.new-changes.ensures.items)
    (walked_first old new front end c.in_ok-old_runs.old_runs.items c.in_ok-new_runs.new_runs.items (first_gap old new front end) refl refl
    (reached_first old new front end c.common_front-front.ensures (plain_end old new front end c.common_end-end.ensures) c.requires.old_bound c.requires.new_bound))

-- from a run on there are no more than all of them
few_left : (runs lent : List FrameRun) (from : ℕ) → ◌≡◌ {A = List FrameRun} lent runs → from ≤ length runs → length runs ≤ 262144 → from + length (take (length lent - from) (drop from lent)) ≤ 262144
few_left runs lent from same begun few =
    subst (λ (l : List FrameRun). from + length (take (length l - from) (drop from l)) ≤ 262144) (sym same)
    (omega (arith, begun, few, length-take (length runs - from) (drop from runs), length-drop from runs))

pub next_step-requires-clause-old_bound : goal.next_step-requires-clause-old_bound
next_step-requires-clause-old_bound g c =
    let may = may_step _ _ _ _ _ _ _ _ (record { old_are = c.in_ok-old_runs.ensures; new_are = c.in_ok-new_runs.ensures }) c.loop-step.invariant in
    few_left c.in_ok-old_runs.old_runs.items _ c.loop-step.stage.runs.old c.deref-in-loop-step.ensures.value may.old_begun may.old_few

pub next_step-requires-clause-new_bound : goal.next_step-requires-clause-new_bound
next_step-requires-clause-new_bound g c =
    let may = may_step _ _ _ _ _ _ _ _ (record { old_are = c.in_ok-old_runs.ensures; new_are = c.in_ok-new_runs.ensures }) c.loop-step.invariant in
    few_left c.in_ok-new_runs.new_runs.items _ c.loop-step.stage.runs.new c.deref-in-loop-step-2.ensures.value may.new_begun may.new_few

pub next_step-requires-clause-room : goal.next_step-requires-clause-room
next_step-requires-clause-room g c =
    let may = may_step _ _ _ _ _ _ _ _ (record { old_are = c.in_ok-old_runs.ensures; new_are = c.in_ok-new_runs.ensures }) c.loop-step.invariant in
    let p = c.loop-step.stage.runs.old in
    let q = c.loop-step.stage.runs.new in
    let old_runs = c.in_ok-old_runs.old_runs.items in
    let slice = c.deref-in-loop-step-2.result.now in
    let lengths = lengths_at (length c.args.old.now) c.loop-step.stage in
    subst (λ (a : List FrameRun). HasRoom (take (length a - p) (drop p a)) (take (length slice - q) (drop q slice)) lengths) (sym c.deref-in-loop-step.ensures.value)
    (subst (λ (b : List FrameRun). HasRoom (take (length old_runs - p) (drop p old_runs)) (take (length b - q) (drop q b)) lengths) (sym c.deref-in-loop-step-2.ensures.value) may.room)

-- what a call of `next_step` finds, of the runs themselves
found : (old_runs new_runs a b : List FrameRun) (len : ℕ) (stage : Stage) (step : Option Step) → ◌≡◌ {A = List FrameRun} a old_runs → ◌≡◌ {A = List FrameRun} b new_runs
    → IsNextStep (take (length a - stage.runs.old) (drop stage.runs.old a)) (take (length b - stage.runs.new) (drop stage.runs.new b)) len stage step
    → IsNextStep (drop stage.runs.old old_runs) (drop stage.runs.new new_runs) len stage step
found old_runs new_runs a b len stage step e e' h =
    let p = stage.runs.old in
    let q = stage.runs.new in
    plain_step old_runs new_runs len stage step
    (subst (λ (l : List FrameRun). IsNextStep (take (length old_runs - p) (drop p old_runs)) (take (length l - q) (drop q l)) len stage step) e'
    (subst (λ (l : List FrameRun). IsNextStep (take (length l - p) (drop p l)) (take (length b - q) (drop q b)) len stage step) e h))

pub push_hunk-requires : goal.push_hunk-requires
push_hunk-requires g c =
    step_gap _ _ _ _ _ _ c.loop-step.stage c.in-Some.step _ (record { old_are = c.in_ok-old_runs.ensures; new_are = c.in_ok-new_runs.ensures }) c.loop-step.invariant
    (found _ _ _ _ (length c.args.old.now) c.loop-step.stage (Some c.in-Some.step) c.deref-in-loop-step.ensures.value c.deref-in-loop-step-2.ensures.value c.in-Some.ensures)

pub loop-step-preserved : goal.loop-step-preserved
loop-step-preserved g c =
    walked_on _ _ _ _ _ _ c.loop-step.stage c.in-Some.step _ _ (record { old_are = c.in_ok-old_runs.ensures; new_are = c.in_ok-new_runs.ensures }) c.loop-step.invariant
    (found _ _ _ _ (length c.args.old.now) c.loop-step.stage (Some c.in-Some.step) c.deref-in-loop-step.ensures.value c.deref-in-loop-step-2.ensures.value c.in-Some.ensures)
    c.in_ok-push_hunk.ensures

pub returns : goal.returns
returns g c =
    walked_last _ _ _ _ _ _ c.loop-step.stage _ _ (record { old_are = c.in_ok-old_runs.ensures; new_are = c.in_ok-new_runs.ensures }) c.common_front-front.ensures
    (plain_end c.args.old.now c.args.new.now c.common_front-front.result c.common_end-end.result c.common_end-end.ensures) c.loop-step.invariant
    (found _ _ _ _ (length c.args.old.now) c.loop-step.stage None c.deref-in-loop-step.ensures.value c.deref-in-loop-step-2.ensures.value c.in_default.ensures)
    c.in_ok-push_hunk-2.ensures

pub slice_bounds-next_step-start : goal.slice_bounds-next_step-start
slice_bounds-next_step-start g c = grind (arith, common_steps)

pub slice_bounds-next_step-count : goal.slice_bounds-next_step-count
slice_bounds-next_step-count g c = grind (arith, common_steps)

pub loop-step-smaller : goal.loop-step-smaller
loop-step-smaller g c = grind (arith, common_steps)

pub offset_bounds-deref-stage : goal.offset_bounds-deref-stage
offset_bounds-deref-stage g c = grind (arith, common_steps)

pub next_step-requires-clause-len_bound : goal.next_step-requires-clause-len_bound
next_step-requires-clause-len_bound g c = grind (arith, common_steps)

pub next_step-requires-clause-gap_old : goal.next_step-requires-clause-gap_old
next_step-requires-clause-gap_old g c = grind (arith, common_steps)

pub slice_bounds-next_step-start-in-loop-step : goal.slice_bounds-next_step-start-in-loop-step
slice_bounds-next_step-start-in-loop-step g c = grind (arith, common_steps)

pub slice_bounds-next_step-count-in-loop-step : goal.slice_bounds-next_step-count-in-loop-step
slice_bounds-next_step-count-in-loop-step g c = grind (arith, common_steps)

pub push_hunk-requires-2 : goal.push_hunk-requires-2
push_hunk-requires-2 g c = grind (arith, common_steps)

pub offset_bounds-deref-stage-in-loop-step : goal.offset_bounds-deref-stage-in-loop-step
offset_bounds-deref-stage-in-loop-step g c = grind (arith, common_steps)
