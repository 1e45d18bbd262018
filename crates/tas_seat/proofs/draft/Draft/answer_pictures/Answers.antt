use Rattle.std.proofs.Common.{◌≡◌, ℕ, ◌+◌, ◌-◌, ◌++◌, List, ◌∙◌, ap, refl, arith}
use Rattle.std.proofs.lemmas.Result.{err_from_is_err_and}
use Rattle.tas_seat.specs.Drafts.{IsPictureIn}
use Rattle.tas_seat.proofs.StripLemmas.{nothing_shown, shown_more, strip_answered, draft_strip_unanswered, draft_strip_without_memory}
use Rattle.tas_seat.proofs.draft.Draft.answer_pictures.Goals as goal

pub loop-frame-init : goal.loop-frame-init
loop-frame-init g c = record {
  most = omega arith;
  shown = nothing_shown IsPictureIn c.args.self.now c.args.from _ c.new-bytes.ensures.items;
}

pub loop-frame-preserved : goal.loop-frame-preserved
loop-frame-preserved g c = record {
  most = omega (arith, c.loop-frame-test.true, c.loop-frame.auto.frame, c.loop-frame.invariant.most);
  shown = shown_more IsPictureIn c.args.self.now c.loop-frame.self c.answer_picture.new.self c.args.from c.loop-frame.frame c.loop-frame.bytes.items c.in_ok-shown.shown.items c.extend_from_slice.new.self.items c.loop-frame.auto.frame c.loop-frame.invariant.shown
      c.in_ok-shown.ensures (c.in_ok-extend_from_slice.ensures.items ∙ ap (λ (l : List ℕ). c.loop-frame.bytes.items ++ l) c.as_slice.ensures.value);
}

pub returns-in_err-shown : goal.returns-in_err-shown
returns-in_err-shown g c =
    let p = err_from_is_err_and c.from_residual.result c.from_residual.ensures.1 in
    rw (p.1, p.2) (draft_strip_unanswered c.args.self.now c.loop-frame.self c.answer_picture.new.self c.args.from c.args.to c.loop-frame.frame c.loop-frame.bytes.items c.in_err-shown.field-0.0 c.loop-frame.auto.frame (omega (arith, c.loop-frame-test.true))
    c.loop-frame.invariant.shown c.in_err-shown.ensures)

pub returns : goal.returns
returns g c =
    strip_answered IsPictureIn c.args.self.now c.loop-frame.self c.args.from c.args.to c.loop-frame.frame c.loop-frame.bytes.items c.loop-frame.invariant.shown
    (let end : c.loop-frame.frame - c.args.from ≡ c.args.to - c.args.from = omega (arith, c.loop-frame-test.false, c.loop-frame.auto.frame, c.loop-frame.invariant.most) in end)

pub returns-in_err-extend_from_slice : goal.returns-in_err-extend_from_slice
returns-in_err-extend_from_slice g c =
    let p = err_from_is_err_and c.from_residual-in_err-extend_from_slice.result c.from_residual-in_err-extend_from_slice.ensures.1 in
    let bytes = c.loop-frame.bytes.items in
    let told = c.in_ok-shown.shown.items in
    let shown = shown_more IsPictureIn c.args.self.now c.loop-frame.self c.answer_picture.new.self c.args.from c.loop-frame.frame bytes told (bytes ++ told) c.loop-frame.auto.frame c.loop-frame.invariant.shown c.in_ok-shown.ensures refl in
    rw p.1
    (draft_strip_without_memory c.args.self.now c.answer_picture.new.self c.args.from c.args.to (c.loop-frame.frame + 1) (bytes ++ told) p.0 p.2 (omega (arith, c.loop-frame.auto.frame)) (omega (arith, c.loop-frame-test.true)) shown)
