use Rattle.std.proofs.lemmas.Grind.{common_steps}
use Rattle.std.proofs.Common.{not, ap, ◌∙◌, arith}
use Rattle.tas_words.proofs.TipLemmas.{stray_none}
use Rattle.tas_words.proofs.tips.+has_stray.Goals as goal

pub returns-in_default : goal.returns-in_default
returns-in_default n c = ap not c.is_empty.ensures ∙ stray_none c.args.words.now c.args.texts.now c.in_default.ensures.cases

pub returns-in-None : goal.returns-in-None
returns-in-None n c = grind (arith, common_steps)
