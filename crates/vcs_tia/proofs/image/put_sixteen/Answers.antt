use Rattle.std.proofs.lemmas.Grind.{common_steps}
use Rattle.std.proofs.Common.{◌++◌, ◌-◌, arith, drop, length}
use Rattle.std.proofs.lemmas.List.{length-append, length-drop}
use Rattle.vcs_tia.proofs.Images.{halves_put}
use Rattle.vcs_tia.proofs.image.put_sixteen.Goals as goal

pub returns-clause-bytes : goal.returns-clause-bytes
returns-clause-bytes c =
    let p = c.put_eight.new.bytes in
    let b = c.args.bytes.now in
    let long_p = c.put_eight.ensures.size in
    let long_b = c.requires.size in
    let joined = length-append p (drop 24 b) in
    let rest = length-drop 24 b in
    halves_put b c.args.pixels.now p c.put_eight-2.new.bytes (length (p ++ drop 24 b) - 24) long_b c.requires.pixels long_p (omega arith)
    c.put_eight.ensures.bytes c.put_eight-2.ensures.bytes

pub put_eight-requires-clause-pixels : goal.put_eight-requires-clause-pixels
put_eight-requires-clause-pixels c = grind (arith, common_steps)

pub put_eight-requires-clause-bytes : goal.put_eight-requires-clause-bytes
put_eight-requires-clause-bytes c = grind (arith, common_steps)
