-- What a search of a movie has at hand, and what it shows.
use Rattle.std.proofs.Common.{◌≡◌, ℕ, ◌+◌, ◌*◌, ◌≤◌, List, length, refl, sym, subst, ◌∙◌, arith}
use Rattle.std.proofs.Math.Nat.{mul-le-mul}
use Rattle.vcs_inputs.specs.declared.input.Input.{Input}
use Rattle.tas_movie.specs.Content.{MovieContent, most_inputs}
use Rattle.tas_language.specs.declared.change.Change.{Change}
use Rattle.tas_search.specs.declared.goal.GoalKind.{GoalKind}
use Rattle.tas_search.specs.declared.goal.GoalKind.TheVariants.{Reach, Most, Least}
use Rattle.tas_search.specs.declared.movie_search.SearchRange.{SearchRange}
use Rattle.tas_search.specs.Outcome.{Outcome, best, nothing, stopped}
use Rattle.tas_search.specs.Space.{SpaceContent}
use Rattle.tas_search.specs.GoalAnswer.{IsGoalAnswer}
use Rattle.tas_search.specs.Grammar.{Tree}
use Rattle.tas_search.specs.AnswerChanges.{IsSpaceOf, Writes}
use Rattle.tas_search.specs.Inside.FoundChanges.{FitsMovie, AreChangesOf}
use Rattle.tas_search.specs.MovieSearch.{space_of, fault_of, CanSearch, IsSearchFault, StopsSearching, WritesFound}
use Rattle.tas_search.specs.declared.logs.Unfinished.{Unfinished}
use Rattle.tas_search.specs.declared.logs.Unfinished.TheVariants as end
use Rattle.tas_search.specs.Logs.{LogBytes}
use Rattle.tas_search.specs.Best.{FitsBelow}
use Rattle.tas_search.specs.Reported.{IsLastLayer, IsReported, StopsReporting}
use Rattle.tas_search.specs.declared.search_error.SearchError.{SearchError}
use Rattle.tas_search.specs.declared.search_error.SearchError.TheVariants.{Read, Run, Choices, Names as NamesAt, Goal, Frames, Search as NotSearched, Memory as Refused}
use Rattle.tas_search.specs.SearchText.{SearchInputs, Said, IsGoalError, IsCutReport, StopsText}
use Rattle.tas_search.proofs.ReportLemmas.{lines_whole}

shorter_fits : (m n hold from : ℕ) → m ≤ n → from + n * hold ≤ most_inputs → from + m * hold ≤ most_inputs
shorter_fits m n hold from le h = let less : m * hold ≤ n * hold = mul-le-mul le (le_self hold) in omega (arith, less)
  where
    le_self : (k : ℕ) → k ≤ k
    le_self k = omega arith

-- what was found fits into the movie, since the longest sequences do
pub found_fits : (s : SpaceContent) (kind : GoalKind) (e : Tree) (count states from : ℕ) (outcome : Outcome) → from + count * s.hold ≤ most_inputs → IsGoalAnswer s kind e count states outcome → FitsMovie from s.hold outcome
found_fits s Reach e count states from (best ks) le h = shorter_fits (length ks) count s.hold from h.1 le
found_fits s Most e count states from (best ks) le h = shorter_fits (length ks) count s.hold from (omega (arith, h.0.count)) le
found_fits s Least e count states from (best ks) le h = shorter_fits (length ks) count s.hold from (omega (arith, h.0.count)) le
found_fits s kind e count states from nothing le h = tt
found_fits s kind e count states from (stopped k) le h = tt

-- the law of the changes
abbrev Law : Type 0
Law = (movie : MovieContent) (from : ℕ) (s : SpaceContent) (ks : List ℕ) → IsSpaceOf movie from s ks → Writes movie from s ks

pub writes_found : (movie : MovieContent) (choices : List Input) (range : SearchRange) (outcome : Outcome) (changes : List Change) → Law → range.from ≤ length movie.inputs → FitsMovie range.from range.hold outcome
    → AreChangesOf (length movie.inputs) range.from (space_of movie choices range) outcome changes → WritesFound movie range (space_of movie choices range) outcome changes
writes_found movie choices range (best ks) changes law within fits is = (is, law movie range.from (space_of movie choices range) ks (record { within = within; cart = refl; start = refl; fits = fits }))
writes_found movie choices range nothing changes law within fits is = is
writes_found movie choices range (stopped k) changes law within fits is = is

-- a search that wasn't finished
pub unfinished_fault : (movie : MovieContent) (range : SearchRange) (why : Unfinished) → CanSearch movie range → IsSearchFault movie range (fault_of why)
unfinished_fault movie range end.Report can = can
unfinished_fault movie range end.Memory can = can

pub unfinished_stops : (s : SpaceContent) (range : SearchRange) (old new : LogBytes) (why : Unfinished) → StopsReporting s range.count range.states why old new → StopsSearching s range old new (fault_of why)
unfinished_stops s range old new end.Report h = h
unfinished_stops s range old new end.Memory h = h

-- the last layer of an answer is one to which the search can come
last_reach : (s : SpaceContent) (count states n : ℕ) (ks : List ℕ) → length ks ≤ count → FitsBelow s states (length ks + 1) → n ≡ length ks → (n ≤ count) × FitsBelow s states (n + 1)
last_reach s count states n ks le fits e = (omega (arith, e), subst (λ (k : ℕ). FitsBelow s states (k + 1)) (sym e) fits)

fits_less : (s : SpaceContent) (states m n : ℕ) → m ≤ n → FitsBelow s states n → FitsBelow s states m
fits_less s states m n le fits = λ k from to over. fits k from (omega arith) over

last_extreme : (s : SpaceContent) (count states n : ℕ) (ks : List ℕ) → length ks ≡ count → FitsBelow s states (count + 1) → n ≡ length ks → (n ≤ count) × FitsBelow s states (n + 1)
last_extreme s count states n ks all fits e = (omega (arith, e, all), subst (λ (k : ℕ). FitsBelow s states (k + 1)) (sym (e ∙ all)) fits)

last_within : (s : SpaceContent) (kind : GoalKind) (e : Tree) (count states n : ℕ) (outcome : Outcome) → IsGoalAnswer s kind e count states outcome → IsLastLayer s count outcome n
    → (n ≤ count) × FitsBelow s states (n + 1)
last_within s Reach e count states n (best ks) h last = last_reach s count states n ks h.1 h.2 last
last_within s Most e count states n (best ks) h last = last_extreme s count states n ks h.0.count h.1 last
last_within s Least e count states n (best ks) h last = last_extreme s count states n ks h.0.count h.1 last
last_within s Reach e count states n nothing h last = (last.0, fits_less s states (n + 1) (count + 1) (omega (arith, last.0)) h.1)
last_within s Most e count states n nothing h last = (last.0, fits_less s states (n + 1) (count + 1) (omega (arith, last.0)) h.1)
last_within s Least e count states n nothing h last = (last.0, fits_less s states (n + 1) (count + 1) (omega (arith, last.0)) h.1)
last_within s Reach e count states n (stopped k) h last = (omega (arith, last, h.3), subst (FitsBelow s states) (sym last) h.1)
last_within s Most e count states n (stopped k) h last = (omega (arith, last, h.2), subst (FitsBelow s states) (sym last) h.0)
last_within s Least e count states n (stopped k) h last = (omega (arith, last, h.2), subst (FitsBelow s states) (sym last) h.0)

pub reported_stops : (s : SpaceContent) (kind : GoalKind) (e : Tree) (count states : ℕ) (outcome : Outcome) (old new : LogBytes) → IsGoalAnswer s kind e count states outcome
    → IsReported s count outcome old new → StopsReporting s count states end.Memory old new
reported_stops s kind e count states outcome old new answer h =
    let last = last_within s kind e count states (length h.times) outcome answer h.is_last in
    lines_whole s count states (length h.times) old new last.0 h.full last.1 (record { times = h.times; count = refl; logged = h.logged })

-- a search that doesn't begin
pub goal_stops : (i : SearchInputs) (names goal : List ℕ) (error : SearchError) (old : LogBytes) → IsGoalError names goal error → StopsText i error old old
goal_stops i names goal (Read fault) old h = absurd h
goal_stops i names goal (Run fault) old h = absurd h
goal_stops i names goal (Choices e) old h = absurd h
goal_stops i names goal (NamesAt e) old h = refl
goal_stops i names goal (Goal fault) old h = refl
goal_stops i names goal Frames old h = absurd h
goal_stops i names goal (NotSearched fault) old h = absurd h
goal_stops i names goal Refused old h = absurd h

-- one that isn't finished
pub found_stops : (i : SearchInputs) (movie : MovieContent) (inputs : List Input) (kind : GoalKind) (e : Tree) (range : SearchRange) (error : SearchError) (old new : LogBytes) → Said i movie inputs kind e range
    → IsCutReport (space_of movie inputs range) range error old new → StopsText i error old new
found_stops i movie inputs kind e range (Read fault) old new said cut = absurd cut
found_stops i movie inputs kind e range (Run fault) old new said cut = absurd cut
found_stops i movie inputs kind e range (Choices fault) old new said cut = absurd cut
found_stops i movie inputs kind e range (NamesAt fault) old new said cut = absurd cut
found_stops i movie inputs kind e range (Goal fault) old new said cut = absurd cut
found_stops i movie inputs kind e range Frames old new said cut = absurd cut
found_stops i movie inputs kind e range (NotSearched fault) old new said cut = record { movie = movie; inputs = inputs; kind = kind; e = e; range = range; said = said; cut = cut }
found_stops i movie inputs kind e range Refused old new said cut = record { movie = movie; inputs = inputs; kind = kind; e = e; range = range; said = said; cut = cut }
