use Rattle.std.proofs.Common.{arith}
use Rattle.std.proofs.lemmas.Grind.{common_steps}
use Rattle.tas_language.proofs.CommandLemmas.{only_load, only_small_load}
use Rattle.tas_language.proofs.parsing.parse_line.Goals as goal

pub returns-in_err-load_image-clause-none : goal.returns-in_err-load_image-clause-none
returns-in_err-load_image-clause-none c =
    rw c.from_residual.ensures
    (only_small_load c.args.line.now c.in-Some.rest.now c.in-Some.ensures.some c.in_err-load_image.ensures.none)

pub returns-in_err-load_image-2-clause-none : goal.returns-in_err-load_image-2-clause-none
returns-in_err-load_image-2-clause-none c =
    rw c.from_residual-in_err-load_image-2.ensures
    (only_load c.args.line.now c.in-Some-after_prefix.rest.now c.in-Some-after_prefix.ensures.some c.in_default.ensures.none c.in_err-load_image-2.ensures.none)

pub returns-in_err-at-2-clause-some : goal.returns-in_err-at-2-clause-some
returns-in_err-at-2-clause-some c = grind (arith, common_steps)

pub returns-in_err-load_image-2-clause-some : goal.returns-in_err-load_image-2-clause-some
returns-in_err-load_image-2-clause-some c = grind (arith, common_steps)

pub returns-in_err-frames-clause-none : goal.returns-in_err-frames-clause-none
returns-in_err-frames-clause-none c = grind (arith, common_steps)

pub returns-in_err-at-clause-some : goal.returns-in_err-at-clause-some
returns-in_err-at-clause-some c = grind (arith, common_steps)

pub returns-clause-some : goal.returns-clause-some
returns-clause-some c = grind (arith, common_steps)

pub returns-in_err-at-3-clause-some : goal.returns-in_err-at-3-clause-some
returns-in_err-at-3-clause-some c = grind (arith, common_steps)

pub returns-in_err-at-3-clause-none : goal.returns-in_err-at-3-clause-none
returns-in_err-at-3-clause-none c = grind (arith, common_steps)

pub returns-in_err-frames-clause-some : goal.returns-in_err-frames-clause-some
returns-in_err-frames-clause-some c = grind (arith, common_steps)

pub returns-in_err-load_image-clause-some : goal.returns-in_err-load_image-clause-some
returns-in_err-load_image-clause-some c = grind (arith, common_steps)

pub returns-in_err-at-2-clause-none : goal.returns-in_err-at-2-clause-none
returns-in_err-at-2-clause-none c = grind (arith, common_steps)

pub returns-in_err-at-clause-none : goal.returns-in_err-at-clause-none
returns-in_err-at-clause-none c = grind (arith, common_steps)
