use Rattle.std.proofs.Common.{arith}
use Rattle.std.proofs.lemmas.Grind.{common_steps}
use Rattle.tas_words.proofs.words.pairs_of.Goals as goal

pub returns-in_err-pair_of-8 : goal.returns-in_err-pair_of-8
returns-in_err-pair_of-8 c = grind (arith, common_steps)

pub returns-in_err-pair_of-3 : goal.returns-in_err-pair_of-3
returns-in_err-pair_of-3 c = grind (arith, common_steps)

pub returns-in_err-pair_of-6 : goal.returns-in_err-pair_of-6
returns-in_err-pair_of-6 c = grind (arith, common_steps)

pub returns-in_err-pair_of-7 : goal.returns-in_err-pair_of-7
returns-in_err-pair_of-7 c = grind (arith, common_steps)

pub returns-in_err-pair_of-4 : goal.returns-in_err-pair_of-4
returns-in_err-pair_of-4 c = grind (arith, common_steps)

pub returns-in_err-pair_of-5 : goal.returns-in_err-pair_of-5
returns-in_err-pair_of-5 c = grind (arith, common_steps)

pub returns : goal.returns
returns c = grind (arith, common_steps)

pub returns-in_err-pair_of : goal.returns-in_err-pair_of
returns-in_err-pair_of c = grind (arith, common_steps)

pub returns-in_err-branch : goal.returns-in_err-branch
returns-in_err-branch c = grind (arith, common_steps)

pub returns-in_err-pair_of-2 : goal.returns-in_err-pair_of-2
returns-in_err-pair_of-2 c = grind (arith, common_steps)
