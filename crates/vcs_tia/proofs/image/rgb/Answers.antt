use Rattle.std.proofs.Common.{◌∙◌, ap, List, ℕ, [], ◌∷◌, replicate, get_or}
use Rattle.std.specs.List.{flat_map}
use Rattle.vcs_tia.specs.Image.{rgb_of}
use Rattle.vcs_tia.proofs.Images.{first_three}
use Rattle.vcs_tia.proofs.image.rgb.Goals as goal

pub returns : goal.returns
returns c =
    ap (λ (xs : List ℕ). get_or xs 0 0 ∷ get_or xs 1 0 ∷ get_or xs 2 0 ∷ []) c.eight_alike-eight.ensures
    ∙ first_three c.args.colour (flat_map rgb_of (replicate 7 c.args.colour))
