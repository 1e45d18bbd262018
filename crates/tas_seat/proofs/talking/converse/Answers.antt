use Rattle.std.proofs.lemmas.Grind.{common_steps}
use Rattle.std.proofs.Common.{ℕ, [], take, None, ap, arith, rules}
use Rattle.std.proofs.lemmas.Result.{err_from_is_err_and}
use Rattle.tas_seat.specs.Conversations.{talking}
use Rattle.tas_seat.proofs.TalkLemmas.{no_memory_yet, begins, goes_on, quits, unread, ends_well, ends_cut, breaks_off}
use Rattle.tas_seat.proofs.talking.converse.Goals as goal

pub returns-in_default : goal.returns-in_default
returns-in_default g c = no_memory_yet c.args.seat.now _ _

pub loop-init : goal.loop-init
loop-init g c = record {
  way = ([], [], begins (talking c.args.seat.now None) c.in-Ok.line.bytes.items c.in-Ok.line.long _ _ c.in-Ok.ensures);
  next = search rules;
}

pub returns-in_default-read : goal.returns-in_default-read
returns-in_default-read g c =
    let (xs, part, way) = c.loop.invariant.way in
    unread c.args.seat.now (talking c.loop.seat c.loop.draft) c.loop.written c.loop.line.bytes.items c.loop.line.long _ _ _ _ _ xs part way c.in_default-read.ensures.bytes

pub returns-then-count-eq0 : goal.returns-then-count-eq0
returns-then-count-eq0 g c =
    let (xs, part, way) = c.loop.invariant.way in
    ends_well c.args.seat.now (talking c.loop.seat c.loop.draft) c.loop.written c.loop.line.bytes.items c.loop.line.long _ _ _ _ _ _ xs part (take c.in-Ok-read.count c.read.new.buf) way c.in-Ok-read.ensures.bytes.0
    (ap (λ (n : ℕ). take n c.read.new.buf) c.if-count-eq0.true) (c.in-Ok-read.ensures.bytes.1 c.if-count-eq0.true (omega arith)) (c.in_ok-answer_last.ensures part way.holds)

pub returns-in_err-answer_last : goal.returns-in_err-answer_last
returns-in_err-answer_last g c =
    let (xs, part, way) = c.loop.invariant.way in
    let p = err_from_is_err_and c.from_residual.result c.from_residual.ensures.1 in
    rw (p.1, p.2)
    (ends_cut c.args.seat.now (talking c.loop.seat c.loop.draft) c.loop.written c.loop.line.bytes.items c.loop.line.long _ _ _ _ _ _ xs part (take c.in-Ok-read.count c.read.new.buf) c.in_err-answer_last.field-0.0 way c.in-Ok-read.ensures.bytes.0
    (ap (λ (n : ℕ). take n c.read.new.buf) c.if-count-eq0.true) (c.in-Ok-read.ensures.bytes.1 c.if-count-eq0.true (omega arith)) (c.in_err-answer_last.ensures part way.holds))

pub loop-preserved : goal.loop-preserved
loop-preserved g c = record {
  way =
      let (xs, part, way) = c.loop.invariant.way in
      goes_on (talking c.args.seat.now None) (talking c.loop.seat c.loop.draft) (talking c.answer_part.new.seat c.answer_part.new.draft) c.loop.written c.in-Some-2.next c.loop.line.bytes.items c.answer_part.new.line.bytes.items c.loop.line.long c.answer_part.new.line.long _ _ _ _ _ _ xs part
      (take c.in-Ok-read.count c.read.new.buf) way c.in-Ok-read.ensures.bytes.0 ((rw c.in-Some-2.is at c.in_ok-next.ensures) part way.holds way.none);
  next = search rules;
}

pub returns-in-None-2 : goal.returns-in-None-2
returns-in-None-2 g c =
    let (xs, part, way) = c.loop.invariant.way in
    quits c.args.seat.now (talking c.loop.seat c.loop.draft) (talking c.answer_part.new.seat c.answer_part.new.draft) c.loop.written c.loop.line.bytes.items c.answer_part.new.line.bytes.items c.loop.line.long c.answer_part.new.line.long _ _ _ _ _ _ xs part
    (take c.in-Ok-read.count c.read.new.buf) way c.in-Ok-read.ensures.bytes.0 ((rw c.in-None-2.is at c.in_ok-next.ensures) part way.holds way.none)

pub returns-in_err-next : goal.returns-in_err-next
returns-in_err-next g c =
    let (xs, part, way) = c.loop.invariant.way in
    let p = err_from_is_err_and c.from_residual-in_err-next.result c.from_residual-in_err-next.ensures.1 in
    rw (p.1, p.2)
    (breaks_off c.args.seat.now (talking c.loop.seat c.loop.draft) (talking c.answer_part.new.seat c.answer_part.new.draft) c.loop.written c.loop.line.bytes.items c.answer_part.new.line.bytes.items c.loop.line.long c.answer_part.new.line.long _ _ _ _ _ _ xs part
    (take c.in-Ok-read.count c.read.new.buf) c.in_err-next.field-0.0 way c.in-Ok-read.ensures.bytes.0 (c.in_err-next.ensures part way.holds way.none))

pub slice_bounds-part-end : goal.slice_bounds-part-end
slice_bounds-part-end g c = grind (arith, common_steps)

pub unreachable-requires : goal.unreachable-requires
unreachable-requires g c = grind (arith, common_steps)

pub slice_bounds-read-end : goal.slice_bounds-read-end
slice_bounds-read-end g c = grind (arith, common_steps)

pub slice_bounds-buffer-end : goal.slice_bounds-buffer-end
slice_bounds-buffer-end g c = grind (arith, common_steps)

pub loop-init-derived : goal.loop-init-derived
loop-init-derived g c = grind (arith, common_steps)
