use Rattle.std.proofs.Common.{[], ◌∙◌, arith}
use Rattle.std.proofs.Math.Nat.{le_refl}
use Rattle.std.specs.Prelude.{vec_capacity}
use Rattle.tas_movie.specs.Text.{head_text1, head_text2}
use Rattle.tas_movie.specs.Fault.{frames_fault, runs_fault}
use Rattle.tas_movie.proofs.TwoTexts.{head_tells, first_goes_on, second_goes_on, same_fault, first_read, second_read, empty_fits}
use Rattle.tas_movie.proofs.reading.read_lines.Goals as goal

pub read_frames-requires : goal.read_frames-requires
read_frames-requires g c = c.requires

pub read_runs-requires : goal.read_runs-requires
read_runs-requires g c = c.requires

pub returns-in_default-clause-bound : goal.returns-in_default-clause-bound
returns-in_default-clause-bound g c = empty_fits c.args.list.now c.requires.empty

pub returns-in_default-clause-capacity : goal.returns-in_default-clause-capacity
returns-in_default-clause-capacity g c = le_refl (vec_capacity c.args.list.now)

pub returns-in_err-after_digest-clause-bound : goal.returns-in_err-after_digest-clause-bound
returns-in_err-after_digest-clause-bound g c = empty_fits c.args.list.now c.requires.empty

pub returns-in_err-after_digest-clause-capacity : goal.returns-in_err-after_digest-clause-capacity
returns-in_err-after_digest-clause-capacity g c = le_refl (vec_capacity c.args.list.now)

pub returns-then-eq-clause-movie : goal.returns-then-eq-clause-movie
returns-then-eq-clause-movie g c =
    first_read c.read_frames.result c.args.bytes.now c.in-Some.head.now c.in-Some.after.now c.args.cart.now c.in_ok-after_digest.field-0.now c.read_frames.new.list.items c.in-Some.ensures.bytes
    (head_tells c.in-Some.head.now _ head_text1 _ _ c.eq.ensures c.as_slice.ensures c.if-eq.true) c.in_ok-after_digest.ensures.whole (omega (arith, c.read_frames.ensures.bound)) c.read_frames.ensures.frames

pub returns-then-eq-clause-fault : goal.returns-then-eq-clause-fault
returns-then-eq-clause-fault g c =
    same_fault c.read_frames.result _ _
    (first_goes_on c.args.bytes.now c.in-Some.head.now c.in-Some.after.now c.args.cart.now c.in-Some.ensures.lines (head_tells c.in-Some.head.now _ head_text1 _ _ c.eq.ensures c.as_slice.ensures c.if-eq.true)
    ∙ c.in_ok-after_digest.ensures.fault (frames_fault 0))
    c.read_frames.ensures.fault

pub returns-then-eq-clause-capacity : goal.returns-then-eq-clause-capacity
returns-then-eq-clause-capacity g c = c.read_frames.ensures.capacity

pub returns-in_err-after_digest-2-clause-bound : goal.returns-in_err-after_digest-2-clause-bound
returns-in_err-after_digest-2-clause-bound g c = empty_fits c.args.list.now c.requires.empty

pub returns-in_err-after_digest-2-clause-capacity : goal.returns-in_err-after_digest-2-clause-capacity
returns-in_err-after_digest-2-clause-capacity g c = le_refl (vec_capacity c.args.list.now)

pub returns-then-eq-2-clause-movie : goal.returns-then-eq-2-clause-movie
returns-then-eq-2-clause-movie g c =
    second_read c.read_runs.result c.args.bytes.now c.in-Some.head.now c.in-Some.after.now c.args.cart.now c.in_ok-after_digest-2.field-0.now c.read_runs.new.list.items c.in-Some.ensures.bytes
    (head_tells c.in-Some.head.now _ head_text2 _ _ c.eq-2.ensures c.as_slice-2.ensures c.if-eq-2.true) c.in_ok-after_digest-2.ensures.whole c.read_runs.ensures.runs

pub returns-then-eq-2-clause-fault : goal.returns-then-eq-2-clause-fault
returns-then-eq-2-clause-fault g c =
    same_fault c.read_runs.result _ _
    (second_goes_on c.args.bytes.now c.in-Some.head.now c.in-Some.after.now c.args.cart.now c.in-Some.ensures.lines (head_tells c.in-Some.head.now _ head_text1 _ _ c.eq.ensures c.as_slice.ensures c.if-eq.false)
    (head_tells c.in-Some.head.now _ head_text2 _ _ c.eq-2.ensures c.as_slice-2.ensures c.if-eq-2.true)
    ∙ c.in_ok-after_digest-2.ensures.fault (runs_fault 3 []))
    c.read_runs.ensures.fault

pub returns-then-eq-2-clause-bound : goal.returns-then-eq-2-clause-bound
returns-then-eq-2-clause-bound g c = c.read_runs.ensures.bound

pub returns-then-eq-2-clause-capacity : goal.returns-then-eq-2-clause-capacity
returns-then-eq-2-clause-capacity g c = c.read_runs.ensures.capacity

pub returns-clause-bound : goal.returns-clause-bound
returns-clause-bound g c = empty_fits c.args.list.now c.requires.empty

pub returns-clause-capacity : goal.returns-clause-capacity
returns-clause-capacity g c = le_refl (vec_capacity c.args.list.now)
