use Rattle.std.proofs.Common.{◌∙◌, sym, refl, take, arith, take_all}
use Rattle.std.proofs.lemmas.Bool.{ne_eqb}
use Rattle.std.proofs.lemmas.List.{length-take-le}
use Rattle.vcs_tia.proofs.Images.{same_lanes}
use Rattle.vcs_tia.proofs.image.are_same.Goals as goal

pub returns : goal.returns
returns c none =
    let xs = c.args.above.now in
    let ys = c.args.pixels.now in
    let long_x = c.requires.above in
    let long_y = c.requires.pixels in
    sym (take_all 16 xs (omega arith))
    ∙ same_lanes _ (take 16 xs) (take 16 ys) 16 (length-take-le 16 xs (omega arith)) (length-take-le 16 ys (omega arith)) (omega arith) (λ x y other. rw (ne_eqb x y other) refl) none
    ∙ take_all 16 ys (omega arith)
