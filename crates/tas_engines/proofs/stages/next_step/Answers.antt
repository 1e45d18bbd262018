use Rattle.std.proofs.Common.{◌≡◌, ◌≤◌, ◌+◌, ◌-◌, ℕ, take, drop, ap, ◌∙◌, arith}
use Rattle.tas_movie.specs.Content.{most_inputs}
use Rattle.tas_engines.specs.Differences.{frames}
use Rattle.tas_engines.proofs.RunLemmas.{frames_within, frames_inside}
use Rattle.tas_engines.proofs.AlikeLemmas.{plain_front, stepped}
use Rattle.tas_engines.proofs.stages.next_step.Goals as goal

pub frames_of-requires : goal.frames_of-requires
frames_of-requires c =
    let left : frames c.args.old.now ≤ c.args.len - c.args.stage.gap.old = c.requires.room.old_left in
    let bound = c.requires.len_bound in
    omega (arith, left, bound, frames_within c.in-Some.at.old c.args.old.now)

pub overflow_add-old_end : goal.overflow_add-old_end
overflow_add-old_end c =
    let left : frames c.args.old.now ≤ c.args.len - c.args.stage.gap.old = c.requires.room.old_left in
    let bound = c.requires.len_bound in
    let within = c.requires.gap_old in
    let count = c.frames_of.ensures in
    omega (arith, left, bound, within, count, frames_within c.in-Some.at.old c.args.old.now)

pub frames_of-stays-requires : goal.frames_of-stays-requires
frames_of-stays-requires c =
    let left : frames c.args.old.now ≤ c.args.len - c.args.stage.gap.old = c.requires.room.old_left in
    let bound = c.requires.len_bound in
    omega (arith, left, bound, frames_inside c.in-Some.at.old (c.in-Some.at.old + c.common_runs-same.result - c.in-Some.at.old) c.args.old.now)

pub overflow_add-result-5 : goal.overflow_add-result-5
overflow_add-result-5 c =
    let left : frames c.args.old.now ≤ c.args.len - c.args.stage.gap.old = c.requires.room.old_left in
    let bound = c.requires.len_bound in
    let within = c.requires.gap_old in
    let count = c.frames_of.ensures in
    let stays = c.frames_of-stays.ensures in
    omega (arith, left, bound, within, count, stays, frames_inside c.in-Some.at.old (c.in-Some.at.old + c.common_runs-same.result - c.in-Some.at.old) c.args.old.now)

pub overflow_add-result-6 : goal.overflow_add-result-6
overflow_add-result-6 c =
    let left : frames c.args.old.now ≤ c.args.len - c.args.stage.gap.old = c.requires.room.old_left in
    let made : c.args.stage.gap.new + frames c.args.new.now ≤ most_inputs = c.requires.room.made_bound in
    let bound = c.requires.len_bound in
    let count = c.frames_of-2.ensures in
    let stays = c.frames_of-stays.ensures in
    omega (arith, left, made, bound, count, stays, frames_within c.in-Some.at.new c.args.new.now, frames_inside c.in-Some.at.old (c.in-Some.at.old + c.common_runs-same.result - c.in-Some.at.old) c.args.old.now)

pub returns : goal.returns
returns c =
    let old = c.args.old.now in
    let new = c.args.new.now in
    let i = c.in-Some.at.old in
    let j = c.in-Some.at.new in
    let n = c.common_runs-same.result in
    let part : c.in-Some.at.old + c.common_runs-same.result - c.in-Some.at.old ≡ c.common_runs-same.result = omega arith in
    stepped old new c.args.len c.args.stage i j n c.frames_of.result c.frames_of-2.result c.frames_of-stays.result c.in-Some.ensures.0 c.in-Some.ensures.1
    (plain_front old new i j n c.common_runs-same.ensures) c.frames_of.ensures c.frames_of-2.ensures (c.frames_of-stays.ensures ∙ ap (λ (k : ℕ). frames (take k (drop i old))) part)
