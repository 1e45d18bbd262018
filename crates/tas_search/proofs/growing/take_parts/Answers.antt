use Rattle.std.proofs.Common.{◌+◌, arith}
use Rattle.tas_search.proofs.GrowLemmas.{all_parts, first_parts, no_parts, one_part_counts}
use Rattle.tas_search.proofs.growing.take_parts.Goals as goal

pub loop-part-init : goal.loop-part-init
loop-part-init g c = record {
  first = no_parts c.args.parts.now c.args.grown.now.layer.keys;
  tried = omega arith;
  fits = c.requires;
}

pub loop-part-preserved : goal.loop-part-preserved
loop-part-preserved g c =
    let inv = c.loop-part.invariant in
    let whole = c.in_ok-take_part.ensures.whole in record {
      first = first_parts c.args.parts.now c.args.grown.now.layer.keys c.loop-part.grown.layer.keys c.take_part.new.grown.layer.keys c.loop-part.part-index c.part-item.result (omega (arith, c.loop-part-test.true)) c.part-item.is whole
          c.in_ok-take_part.ensures.keys inv.first;
      tried = one_part_counts c.args.parts.now c.loop-part.part-index c.part-item.result c.args.grown.now.tried c.loop-part.grown.tried c.take_part.new.grown.tried (omega (arith, c.loop-part-test.true)) c.part-item.is
          c.in_ok-take_part.ensures.tried inv.tried;
      fits = omega (arith, c.len.ensures.len, c.if-len-most.false);
    }

pub returns-then-len-most : goal.returns-then-len-most
returns-then-len-most g c =
    let inv = c.loop-part.invariant in (
      c.loop-part.part-index + 1,
      first_parts c.args.parts.now c.args.grown.now.layer.keys c.loop-part.grown.layer.keys c.take_part.new.grown.layer.keys c.loop-part.part-index c.part-item.result (omega (arith, c.loop-part-test.true)) c.part-item.is
          c.in_ok-take_part.ensures.whole c.in_ok-take_part.ensures.keys inv.first,
      omega (arith, c.len.ensures.len, c.if-len-most.true),
    )

pub returns : goal.returns
returns g c = all_parts c.args.parts.now c.args.grown.now.layer.keys c.loop-part.grown.layer.keys c.loop-part.part-index c.args.grown.now.tried c.loop-part.grown.tried c.args.most (omega arith) c.loop-part.invariant.first c.loop-part.invariant.tried c.loop-part.invariant.fits
