use Rattle.tas_search.proofs.operands.+operand.Given as goal

abbrev pub decreases-operand : goal.decreases-operand
decreases-operand g l = l.levels
