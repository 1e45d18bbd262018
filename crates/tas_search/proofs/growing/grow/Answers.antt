use Rattle.std.proofs.Common.{◌+◌, refl, arith}
use Rattle.tas_search.proofs.GrowLemmas.{blocks_grow, blocks_over}
use Rattle.tas_search.proofs.growing.grow.Goals as goal

pub loop-at-preserved : goal.loop-at-preserved
loop-at-preserved g c =
    let inv = c.loop-at.invariant in
    let all = blocks_grow c.args.space.now c.args.place c.loop-at.at (c.loop-at.at + c.min.result) c.args.limits.states c.args.layer.now _ c.loop-at.grown.layer.keys c.grow_block.new.grown.layer.keys c.loop-at.grown.tried c.grow_block.new.grown.tried
    (omega arith) (omega (arith, inv.within)) refl inv.grown inv.tried (rw c.if-not-fits.false at c.in_ok-fits.ensures) in
    record { within = omega (arith, inv.within); grown = all.0; tried = all.1; fits = all.2 }

pub returns-then-not-fits : goal.returns-then-not-fits
returns-then-not-fits g c =
    let inv = c.loop-at.invariant in
    record {
      layer = blocks_over c.args.space.now c.args.place c.loop-at.at (c.loop-at.at + c.min.result) c.args.limits.states c.args.layer.now _ c.loop-at.grown.layer.keys c.grow_block.new.grown.layer.keys c.loop-at.grown.tried
          c.grow_block.new.grown.tried (omega arith) (omega (arith, inv.within)) refl inv.grown (rw c.if-not-fits.true at c.in_ok-fits.ensures);
      tried = tt;
    }
