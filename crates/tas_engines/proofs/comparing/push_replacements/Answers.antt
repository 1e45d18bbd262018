use Rattle.std.proofs.lemmas.Grind.{common_steps}
use Rattle.std.proofs.Common.{◌≡◌, ◌+◌, ◌-◌, ℕ, take, drop, subst, arith}
use Rattle.tas_engines.specs.Hunks.{AddsReplacement}
use Rattle.tas_engines.proofs.GapSteps.{replacing_none, replacing_next}
use Rattle.tas_engines.proofs.GapLemmas.{left_to_replace}
use Rattle.tas_engines.proofs.comparing.push_replacements.Goals as goal

pub loop-done-init : goal.loop-done-init
loop-done-init g c =
    let gap = c.args.gap in
    record {
      within = omega arith;
      replacing = replacing_none c.args.old.now c.args.new.now gap.old gap.new gap.new_end c.args.changes.now.items;
    }

pub loop-done-preserved : goal.loop-done-preserved
loop-done-preserved g c =
    let old = c.args.old.now in
    let new = c.args.new.now in
    let gap = c.args.gap in
    let done = c.loop-done.done in
    let n = c.in_ok-done.field-0 in
    let left = gap.new_end - (gap.new + done) in
    let before = c.args.changes.now.items in
    let now = c.loop-done.changes.items in
    let after = c.push_replacement.new.changes.items in
    let here = c.loop-done-test.true in
    let as_many = c.requires.as_many in
    let old_forward = c.requires.gap.old_forward in
    let new_forward = c.requires.gap.new_forward in
    let as_many_left : c.args.gap.old_end - (c.args.gap.old + c.loop-done.done) ≡ c.args.gap.new_end - (c.args.gap.new + c.loop-done.done) = omega (arith, as_many, old_forward, new_forward, here) in
    let added = subst (λ (k : ℕ). AddsReplacement (take k (drop (gap.old + done) old)) (take left (drop (gap.new + done) new)) (gap.new + done) n now after) as_many_left c.in_ok-done.ensures in
    let next = replacing_next old new gap.old gap.new gap.new_end done left n before now after (left_to_replace old new gap done c.requires.gap as_many here) c.loop-done.invariant.replacing added in
    let fits = next.2 in
    record { within = omega (arith, fits, here, new_forward); replacing = next.0 }

pub returns : goal.returns
returns g c = grind (arith, common_steps)

pub loop-done-smaller : goal.loop-done-smaller
loop-done-smaller g c = grind (arith, common_steps)
