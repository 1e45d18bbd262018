-- The answer to a search for a goal.
use Rattle.std.specs.Prelude.{ℕ}
use Rattle.tas_search.specs.declared.extremes.Aim.TheVariants as aim
use Rattle.tas_search.specs.declared.goal.GoalKind.{GoalKind}
use Rattle.tas_search.specs.declared.goal.GoalKind.TheVariants.{Reach, Most, Least}
use Rattle.tas_search.specs.Outcome.{Outcome}
use Rattle.tas_search.specs.Space.{SpaceContent}
use Rattle.tas_search.specs.Expression.{value_of}
use Rattle.tas_search.specs.Goal.{value_in, holds_of}
use Rattle.tas_search.specs.Grammar.{Tree}
use Rattle.tas_search.specs.Best.{IsReachAnswer}
use Rattle.tas_search.specs.Extreme.{IsExtremeAnswer}

-- the shortest sequence of at most `count` choices that reaches a machine of whose RAM the expression doesn't make 0; or that of `count`
-- choices whose machine's RAM it makes the greatest number of, or the least one
abbrev pub IsGoalAnswer : SpaceContent → GoalKind → Tree → ℕ → ℕ → Outcome → Type 0
IsGoalAnswer s Reach t count states outcome = IsReachAnswer s (holds_of (value_of t)) count states outcome
IsGoalAnswer s Most t count states outcome = IsExtremeAnswer s aim.Most (value_in (value_of t)) count states outcome
IsGoalAnswer s Least t count states outcome = IsExtremeAnswer s aim.Least (value_in (value_of t)) count states outcome
