use Rattle.std.proofs.Common.{◌∙◌, sym, refl, take, arith, take_all, replicate, get_or}
use Rattle.std.proofs.lemmas.Bool.{ne_eqb}
use Rattle.std.proofs.lemmas.List.{length-take-le}
use Rattle.vcs_tia.proofs.Images.{same_lanes}
use Rattle.vcs_tia.proofs.image.are_alike.Goals as goal

pub returns : goal.returns
returns c none =
    let xs = c.args.pixels.now in
    let long = c.requires in
    sym (take_all 8 xs (omega arith))
    ∙ same_lanes _ (take 8 xs) (replicate 8 (get_or xs 0 0)) 8 (length-take-le 8 xs (omega arith)) refl (omega arith) (λ x y other. rw (ne_eqb x y other) refl) none
