use Rattle.tas_search.proofs.OneGoal.{one_goal}
use Rattle.tas_search.proofs.laws.one_goal_per_text.Goals as goal

pub returns : goal.returns
returns c = one_goal
