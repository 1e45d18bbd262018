use Rattle.std.proofs.Common.{◌∙◌, ◌-◌, sym, arith}
use Rattle.tas_desk.proofs.PartLemmas.{not_at_start, not_at_end, between_read}
use Rattle.tas_desk.proofs.parts.is_between.Goals as goal

pub returns-then-count-eq0 : goal.returns-then-count-eq0
returns-then-count-eq0 g c = sym (not_at_start c.args.entries.now c.args.count c.if-count-eq0.true)

pub returns-then-len-count : goal.returns-then-len-count
returns-then-len-count g c = sym (not_at_end c.args.entries.now c.args.count (omega (arith, c.if-len-count.true)))

pub returns : goal.returns
returns g c =
    c.may_be_one.ensures
    ∙ sym (between_read c.args.entries.now c.args.count (c.args.count - 1) c.index-entries-last.result c.index-entries-count.result (omega (arith, c.if-count-eq0.false)) (omega (arith, c.if-len-count.false)) c.index-entries-last.is c.index-entries-count.is)
