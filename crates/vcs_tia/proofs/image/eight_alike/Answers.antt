use Rattle.std.proofs.Common.{◌*◌, ◌/◌, ◌∙◌, arith, replicate}
use Rattle.std.proofs.lemmas.List.FromFn.{get_or-map-range_with_len}
use Rattle.std.specs.List.{flat_map}
use Rattle.vcs_tia.specs.Image.{rgb_of}
use Rattle.vcs_tia.proofs.Images.{rgb_of-even, alike_pixels}
use Rattle.vcs_tia.proofs.image.eight_alike.Goals as goal

-- the table's rows are those of the even colour bytes
pub returns : goal.returns
returns c =
    let shade = c.args.colour / 2 in
    get_or-map-range_with_len (λ s. flat_map rgb_of (replicate 8 (2 * s))) 0 128 shade shade _ (omega arith) (omega arith)
    ∙ alike_pixels 8 (2 * shade) c.args.colour (rgb_of-even c.args.colour)
