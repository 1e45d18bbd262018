-- What a search answers, as plain data.
use Rattle.std.specs.Prelude.{ℕ, List}
use Rattle.tas_search.specs.declared.searching.Found.{Found}
use Rattle.tas_search.specs.declared.searching.Found.TheVariants.{Best, Nothing, Stopped}

-- the numbers of the choices of the sequence that was sought; that there is no such sequence; or after how many choices the search stopped
pub data Outcome : Type 0 where
  best : List ℕ → Outcome
  nothing : Outcome
  stopped : ℕ → Outcome

-- what was found
abbrev pub outcome_of : {Z : Type 0} → Found Z → Outcome
outcome_of (Best ks) = best ks.items
outcome_of Nothing = nothing
outcome_of (Stopped k) = stopped k
