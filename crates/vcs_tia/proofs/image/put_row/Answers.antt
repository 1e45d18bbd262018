use Rattle.std.proofs.lemmas.Grind.{common_steps}
use Rattle.std.proofs.Common.{◌∙◌, ◌*◌, ◌+◌, ◌-◌, arith}
use Rattle.vcs_tia.proofs.Images.{row_done, row_left, row_above, length-put}
use Rattle.vcs_tia.proofs.image.put_row.Goals as goal

pub put_sixteen-requires-clause-bytes : goal.put_sixteen-requires-clause-bytes
put_sixteen-requires-clause-bytes c = row_above c.loop-i.bytes c.args.above.now c.loop-i.i c.requires.above (omega arith) c.loop-i.invariant.left

pub loop-i-preserved : goal.loop-i-preserved
loop-i-preserved c =
    let b = c.loop-i.bytes in
    let q = c.put_sixteen.new.bytes in
    let i = c.loop-i.i in
    let long = c.loop-i.invariant.long in
    let size = c.put_sixteen.ensures.size in
    record {
      long = length-put (3 * (16 * i)) (3 * (16 * i) + 48 - 3 * (16 * i)) b q (omega arith) (omega arith) ∙ long;
      done = row_done b c.args.pixels.now q i long c.requires.pixels (omega arith) size c.loop-i.invariant.done c.put_sixteen.ensures.bytes;
      left = row_left b c.args.above.now q i long c.requires.above (omega arith) size c.loop-i.invariant.left;
    }

pub returns : goal.returns
returns c = grind (arith, common_steps)
