use Rattle.tas_search.proofs.GrowLemmas.{block_grows}
use Rattle.tas_search.proofs.growing.grow_block.Goals as goal

pub returns : goal.returns
returns g c =
    let parts = rw c.as_slice.ensures.value at c.in_ok-fits.ensures in
    block_grows c.args.space.now c.args.place c.max-stretch.result c.args.block.now c.args.grown.now.layer.keys c.take_parts.new.grown.layer.keys c.in_ok-parts.parts.items c.args.grown.now.tried c.take_parts.new.grown.tried c.args.limits.states
    c.in_ok-fits.fits c.in_ok-parts.ensures parts
