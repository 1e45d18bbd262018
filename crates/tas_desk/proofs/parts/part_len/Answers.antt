use Rattle.std.proofs.Common.{◌∙◌, sym, arith}
use Rattle.tas_desk.proofs.PartLemmas.{some_before, part_whole, part_shorter}
use Rattle.tas_desk.proofs.parts.part_len.Goals as goal

pub overflow_sub-result : goal.overflow_sub-result
overflow_sub-result g c = let some = some_before c.args.entries.now c.room_for-count.result (sym c.is_between.ensures ∙ c.if-is_between.true) in omega (arith, some)

pub returns-then-is_between : goal.returns-then-is_between
returns-then-is_between g c = sym (part_shorter c.args.entries.now c.room_for-count.result c.room_for-count.ensures (sym c.is_between.ensures ∙ c.if-is_between.true))

pub returns : goal.returns
returns g c = sym (part_whole c.args.entries.now c.room_for-count.result c.room_for-count.ensures (sym c.is_between.ensures ∙ c.if-is_between.false))
