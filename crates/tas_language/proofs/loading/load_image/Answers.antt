use Rattle.std.proofs.Common.{refl}
use Rattle.tas_language.proofs.PartLemmas.{image_of, no_image}
use Rattle.tas_language.proofs.loading.load_image.Goals as goal

pub returns-in_err-write_parts-clause-none : goal.returns-in_err-write_parts-clause-none
returns-in_err-write_parts-clause-none g c =
    rw c.from_residual.ensures
    (λ image is. no_image g.row.SIZE c.args.text.now _ image refl c.in_err-write_parts.ensures.other is)

pub returns-clause-some : goal.returns-clause-some
returns-clause-some g c = image_of g.row.SIZE c.args.text.now _ c.write_parts.new.image refl c.in_ok-write_parts.ensures.written
