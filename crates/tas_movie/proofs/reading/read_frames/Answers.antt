use Rattle.std.proofs.Common.{arith, sym, ◌∙◌, refl}
use Rattle.std.proofs.lemmas.Bool.{eqb-false, eqb-true}
use Rattle.tas_movie.proofs.TextLemmas.{frames_go_on, frames_too_many, frames_wrong, frames_unended, frames_end, frames_read, shorter, all_read}
use Rattle.tas_movie.proofs.reading.read_frames.Goals as goal

pub returns-in_default-clause-frames : goal.returns-in_default-clause-frames
returns-in_default-clause-frames g c = tt

pub returns-in_default-clause-bound : goal.returns-in_default-clause-bound
returns-in_default-clause-bound g c = c.loop-rest.invariant.bound

pub returns-in_default-clause-capacity : goal.returns-in_default-clause-capacity
returns-in_default-clause-capacity g c = c.loop-rest.invariant.capacity

pub returns-in_default-clause-fault : goal.returns-in_default-clause-fault
returns-in_default-clause-fault g c =
    rw (c.error_at.ensures, c.len-number.ensures) (sym c.loop-rest.invariant.same_fault ∙ frames_unended _ c.loop-rest.rest.now c.in_default.ensures.none (eqb-false _ _ (sym c.loop-rest-test.ensures)))

pub returns-then-len-ge-MAX_FRAMES1-clause-bound : goal.returns-then-len-ge-MAX_FRAMES1-clause-bound
returns-then-len-ge-MAX_FRAMES1-clause-bound g c = c.loop-rest.invariant.bound

pub returns-then-len-ge-MAX_FRAMES1-clause-capacity : goal.returns-then-len-ge-MAX_FRAMES1-clause-capacity
returns-then-len-ge-MAX_FRAMES1-clause-capacity g c = c.loop-rest.invariant.capacity

pub returns-then-len-ge-MAX_FRAMES1-clause-fault : goal.returns-then-len-ge-MAX_FRAMES1-clause-fault
returns-then-len-ge-MAX_FRAMES1-clause-fault g c =
    rw (c.error_at-then-len-ge-MAX_FRAMES1.ensures, c.len-number.ensures) (sym c.loop-rest.invariant.same_fault ∙ frames_too_many _ c.loop-rest.rest.now c.in-Some.line.now c.in-Some.after.now c.in-Some.ensures.lines (omega arith))

pub returns-in_default-read_frame-clause-bound : goal.returns-in_default-read_frame-clause-bound
returns-in_default-read_frame-clause-bound g c = c.loop-rest.invariant.bound

pub returns-in_default-read_frame-clause-capacity : goal.returns-in_default-read_frame-clause-capacity
returns-in_default-read_frame-clause-capacity g c = c.loop-rest.invariant.capacity

pub returns-in_default-read_frame-clause-fault : goal.returns-in_default-read_frame-clause-fault
returns-in_default-read_frame-clause-fault g c =
    rw (c.error_at-in_default-read_frame.ensures, c.len-number.ensures) (sym c.loop-rest.invariant.same_fault ∙ frames_wrong _ c.loop-rest.rest.now c.in-Some.line.now c.in-Some.after.now c.in-Some.ensures.lines (omega arith) c.in_default-read_frame.ensures.is_none)

pub loop-rest-preserved : goal.loop-rest-preserved
loop-rest-preserved g c = record {
  frames = frames_read c.args.bytes.now c.loop-rest.list.items c.push.new.self.items c.loop-rest.rest.now c.in-Some.line.now c.in-Some.after.now c.in-Some-read_frame.input c.loop-rest.invariant.frames c.in-Some.ensures.bytes c.in-Some-read_frame.ensures.some (rw (c.push.ensures.items, c.unwrap.ensures) refl);
  same_fault = rw (c.push.ensures.len, c.unwrap.ensures) (sym (frames_go_on _ c.loop-rest.rest.now c.in-Some.line.now c.in-Some.after.now c.in-Some.ensures.lines (omega arith) c.in-Some-read_frame.ensures.is_frame) ∙ c.loop-rest.invariant.same_fault);
  bound = rw (c.push.ensures.len, c.unwrap.ensures) (omega arith);
  capacity = omega (arith, c.push.ensures.capacity);
}

pub loop-rest-smaller : goal.loop-rest-smaller
loop-rest-smaller g c = shorter c.loop-rest.rest.now c.in-Some.line.now c.in-Some.after.now c.in-Some.ensures.bytes

pub returns-clause-frames : goal.returns-clause-frames
returns-clause-frames g c = all_read c.args.bytes.now _ c.loop-rest.rest.now c.loop-rest.invariant.frames (eqb-true _ _ (sym c.loop-rest-test.ensures))

pub returns-clause-fault : goal.returns-clause-fault
returns-clause-fault g c = sym c.loop-rest.invariant.same_fault ∙ frames_end _ c.loop-rest.rest.now (eqb-true _ _ (sym c.loop-rest-test.ensures))
