use Rattle.std.proofs.Common.{◌≡◌, ℕ, ◌+◌, ◌-◌, ◌++◌, List, [], ◌∙◌, ap, refl, arith}
use Rattle.std.proofs.lemmas.Result.{err_from_is_err_and}
use Rattle.tas_seat.specs.Seats.{IsPictureAt}
use Rattle.tas_seat.proofs.StripLemmas.{nothing_shown, shown_more, strip_answered, strip_unanswered, strip_without_memory, picture_alone}
use Rattle.tas_seat.proofs.requests.answer_pictures.Goals as goal

pub loop-frame-init : goal.loop-frame-init
loop-frame-init g c = record {
  most = omega arith;
  shown = nothing_shown (IsPictureAt {A = g.row.A.Denot}) c.args.seat.now c.args.from _ c.new-bytes.ensures.items;
}

pub loop-frame-preserved : goal.loop-frame-preserved
loop-frame-preserved g c = record {
  most = omega (arith, c.loop-frame-test.true, c.loop-frame.auto.frame, c.loop-frame.invariant.most);
  shown = shown_more (IsPictureAt {A = g.row.A.Denot}) c.args.seat.now c.loop-frame.seat c.answer_picture.new.seat c.args.from c.loop-frame.frame c.loop-frame.bytes.items c.in_ok-shown.shown.items c.extend_from_slice.new.self.items c.loop-frame.auto.frame c.loop-frame.invariant.shown
      (picture_alone g.row.A.Denot c.loop-frame.seat c.answer_picture.new.seat c.loop-frame.frame c.in_ok-shown.shown.items c.in_ok-shown.ensures) (c.in_ok-extend_from_slice.ensures.items ∙ ap (λ (l : List ℕ). c.loop-frame.bytes.items ++ l) c.as_slice.ensures.value);
}

pub returns-in_err-shown : goal.returns-in_err-shown
returns-in_err-shown g c =
    let p = err_from_is_err_and c.from_residual.result c.from_residual.ensures.1 in
    rw (p.1, p.2) (strip_unanswered g.row.A.Denot c.args.seat.now c.loop-frame.seat c.answer_picture.new.seat c.args.from c.args.to c.loop-frame.frame c.loop-frame.bytes.items c.in_err-shown.field-0.0 c.loop-frame.auto.frame (omega (arith, c.loop-frame-test.true))
    c.loop-frame.invariant.shown c.in_err-shown.ensures)

pub returns : goal.returns
returns g c = (
  [],
  (
    refl,
    strip_answered (IsPictureAt {A = g.row.A.Denot}) c.args.seat.now c.loop-frame.seat c.args.from c.args.to c.loop-frame.frame c.loop-frame.bytes.items c.loop-frame.invariant.shown
        (let end : c.loop-frame.frame - c.args.from ≡ c.args.to - c.args.from = omega (arith, c.loop-frame-test.false, c.loop-frame.auto.frame, c.loop-frame.invariant.most) in end),
  ),
)

pub returns-in_err-extend_from_slice : goal.returns-in_err-extend_from_slice
returns-in_err-extend_from_slice g c =
    let p = err_from_is_err_and c.from_residual-in_err-extend_from_slice.result c.from_residual-in_err-extend_from_slice.ensures.1 in
    let bytes = c.loop-frame.bytes.items in
    let told = c.in_ok-shown.shown.items in
    let shown = shown_more (IsPictureAt {A = g.row.A.Denot}) c.args.seat.now c.loop-frame.seat c.answer_picture.new.seat c.args.from c.loop-frame.frame bytes told (bytes ++ told) c.loop-frame.auto.frame c.loop-frame.invariant.shown
    (picture_alone g.row.A.Denot c.loop-frame.seat c.answer_picture.new.seat c.loop-frame.frame told c.in_ok-shown.ensures) refl in
    rw p.1
    (strip_without_memory g.row.A.Denot c.args.seat.now c.answer_picture.new.seat c.args.from c.args.to (c.loop-frame.frame + 1) (bytes ++ told) p.0 p.2 (omega (arith, c.loop-frame.auto.frame)) (omega (arith, c.loop-frame-test.true)) shown)
