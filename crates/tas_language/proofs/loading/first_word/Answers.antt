use Rattle.std.proofs.lemmas.Grind.{common_steps}
use Rattle.std.proofs.Common.{arith}
use Rattle.tas_language.proofs.PartLemmas.{word_at, word_end_at, word_end_none}
use Rattle.tas_language.proofs.loading.first_word.Goals as goal

pub returns-in-Some-clause-word : goal.returns-in-Some-clause-word
returns-in-Some-clause-word c = word_at c.args.bytes.now c.in-Some.word.now _ c.split_at.result.0.now c.in-Some.ensures.some.0 c.in-Some.ensures.some.1 c.split_at.ensures.front

pub returns-in-Some-clause-end : goal.returns-in-Some-clause-end
returns-in-Some-clause-end c = word_end_at c.args.bytes.now c.in-Some.word.now _ c.split_at.result.1.now c.in-Some.ensures.some.0 c.split_at.ensures.back

pub returns-in-None-clause-end : goal.returns-in-None-clause-end
returns-in-None-clause-end c = word_end_none c.split_at-in-None.result.1.now (omega (arith, c.split_at-in-None.ensures.back_len))

pub returns-in-None-clause-word : goal.returns-in-None-clause-word
returns-in-None-clause-word c = grind (arith, common_steps)
