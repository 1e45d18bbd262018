use Rattle.std.proofs.Common.{rules, sym, ◌∙◌}
use Rattle.tas_engines.proofs.RemarkLemmas.{trim_none, trim_step, trim_stop}
use Rattle.tas_verify.proofs.manifest.trimmed.Goals as goal

pub returns-then-last-ne32 : goal.returns-then-last-ne32
returns-then-last-ne32 c = sym (trim_stop c.loop-last.rest.now c.in-Some.front.now c.in-Some.last.now c.in-Some.ensures.cases.0 c.if-last-ne32.true) ∙ c.loop-last.invariant

pub loop-last-preserved : goal.loop-last-preserved
loop-last-preserved c = sym (trim_step c.loop-last.rest.now c.in-Some.front.now c.in-Some.last.now c.in-Some.ensures.cases.0 c.if-last-ne32.false) ∙ c.loop-last.invariant

pub returns : goal.returns
returns c = trim_none c.loop-last.rest.now (search rules) ∙ c.loop-last.invariant
