use Rattle.std.proofs.Common.{arith, refl}
use Rattle.std.proofs.lemmas.Bool.{both_ways, le-leb, leb-true}
use Rattle.tas_engines.proofs.RunLemmas.{frames_within}
use Rattle.tas_engines.proofs.AlikeLemmas.{plain_front, alike_front, front_alike}
use Rattle.tas_engines.proofs.alike.go_on_alike.Goals as goal

pub returns-then-common_runs-lt-ALIKE_RUNS : goal.returns-then-common_runs-lt-ALIKE_RUNS
returns-then-common_runs-lt-ALIKE_RUNS c =
    let few = c.if-common_runs-lt-ALIKE_RUNS.true in
    (λ t. absurd (both_ways _ refl t), λ g. let many = alike_front _ _ _ _ _ _ _ g (plain_front c.args.old.now c.args.new.now c.args.at.old c.args.at.new _ c.common_runs.ensures) in absurd (omega (arith, few, many)))

pub frames_of-requires : goal.frames_of-requires
frames_of-requires c =
    let bound = c.requires.room.made_bound in
    omega (arith, bound, frames_within c.args.at.new c.args.new.now)

pub overflow_add-made : goal.overflow_add-made
overflow_add-made c =
    let bound = c.requires.room.made_bound in
    let count = c.frames_of.ensures in
    omega (arith, bound, count, frames_within c.args.at.new c.args.new.now)

pub frames_of-requires-2 : goal.frames_of-requires-2
frames_of-requires-2 c =
    let left = c.requires.room.old_left in
    let bound = c.requires.room.left_bound in
    omega (arith, left, bound, frames_within c.args.at.old c.args.old.now)

pub overflow_sub-left : goal.overflow_sub-left
overflow_sub-left c =
    let left = c.requires.room.old_left in
    let count = c.frames_of-2.ensures in
    omega (arith, left, count, frames_within c.args.at.old c.args.old.now)

pub overflow_add-result : goal.overflow_add-result
overflow_add-result c =
    let made = c.requires.room.made_bound in
    let bound = c.requires.room.left_bound in
    let count = c.frames_of.ensures in
    omega (arith, made, bound, count, frames_within c.args.at.new c.args.new.now)

pub returns : goal.returns
returns c =
    let count = c.frames_of.ensures in
    let count' = c.frames_of-2.ensures in
    let many = c.if-common_runs-lt-ALIKE_RUNS.false in (
      λ t. front_alike _ _ _ _ _ _ _ c.requires.old_within c.requires.new_within (plain_front c.args.old.now c.args.new.now c.args.at.old c.args.at.new _ c.common_runs.ensures) (omega (arith, many)) (let fits = leb-true _ _ t in omega (arith, fits, count, count')),
      λ g. let room = g.room in le-leb _ _ (omega (arith, room, count, count')),
    )
