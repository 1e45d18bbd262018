-- What a search of a movie has at hand for its range, its choices and its verdict.
use Rattle.std.proofs.Common.{◌≡◌, ℕ, ◌+◌, ◌*◌, ◌/◌, ◌%◌, ◌^◌, ◌<◌, ◌≤◌, Bool, true, false, List, length, Some, sym, subst, arith}
use Rattle.std.proofs.lemmas.Grind.{common_steps}
use Rattle.std.proofs.Math.Nat.{mul-le-mul, div-add-mod, mul-mod_left}
use Rattle.std.specs.List.{position, position_or_len}
use Rattle.vcs_inputs.specs.declared.input.Input.{Input}
use Rattle.tas_movie.specs.Content.{MovieContent, most_inputs}
use Rattle.tas_language.specs.declared.change.Change.{Change}
use Rattle.tas_search.specs.declared.goal.GoalKind.{GoalKind}
use Rattle.tas_search.specs.declared.goal.GoalKind.TheVariants.{Reach, Most, Least}
use Rattle.tas_search.specs.declared.movie_search.SearchRange.{SearchRange}
use Rattle.tas_search.specs.Outcome.{Outcome, best, nothing, stopped}
use Rattle.tas_search.specs.Space.{SpaceContent}
use Rattle.tas_search.specs.GoalAnswer.{IsGoalAnswer}
use Rattle.tas_search.specs.Grammar.{Tree}
use Rattle.tas_search.specs.MovieSearch.{IsMovieAnswer}
use Rattle.tas_search.specs.SearchText.{AreGiven, Divides}
use Rattle.tas_search.specs.Inside.Stops.{HasFrames}

-- ---- the first place

pub place_within : {X : Type 0} (p : X → Bool) (xs : List X) (i : ℕ) → position p xs ≡ Some i → i < length xs
place_within p xs i e =
    let at : position_or_len p xs ≡ i = grind (arith, common_steps) in
    grind (arith, common_steps)

-- ---- the range

pub range_count : (hold frames : ℕ) → frames % hold ≡ 0 → (frames / hold) * hold ≡ frames
range_count hold frames e = let whole : hold * (frames / hold) + frames % hold ≡ frames = div-add-mod frames hold in omega (arith, whole, e)

pub no_range : (hold frames : ℕ) → (frames % hold ≡ 0 → ⊥) → Divides hold frames → ⊥
no_range hold frames ne h = ne (subst (λ (n : ℕ). n % hold ≡ 0) h.1.1 (mul-mod_left h.1.0 hold))

-- ---- the choices

pub given_some : (given : Bool) (text : List ℕ) (inputs : List Input) → AreGiven given text inputs → 0 < length inputs
given_some true text inputs h = h.some
given_some false text inputs h = subst (λ (xs : List Input). 0 < length xs) (sym h) (omega arith)

-- ---- the verdict

frames_fit : (k count hold from : ℕ) → k ≤ count → from + count * hold ≤ most_inputs → k * hold < 2 ^ 64
frames_fit k count hold from le h = let less : k * hold ≤ count * hold = mul-le-mul le (le_self hold) in omega (arith, less)
  where
    le_self : (n : ℕ) → n ≤ n
    le_self n = omega arith

goal_frames : (s : SpaceContent) (kind : GoalKind) (e : Tree) (count states hold from : ℕ) (outcome : Outcome) → from + count * hold ≤ most_inputs → IsGoalAnswer s kind e count states outcome → HasFrames hold outcome
goal_frames s kind e count states hold from (best ks) le h = tt
goal_frames s kind e count states hold from nothing le h = tt
goal_frames s Reach e count states hold from (stopped k) le h = (h.2, frames_fit k count hold from h.3 le)
goal_frames s Most e count states hold from (stopped k) le h = (h.1, frames_fit k count hold from h.2 le)
goal_frames s Least e count states hold from (stopped k) le h = (h.1, frames_fit k count hold from h.2 le)

pub stop_frames : (movie : MovieContent) (choices : List Input) (kind : GoalKind) (e : Tree) (range : SearchRange) (outcome : Outcome) (changes : List Change) → IsMovieAnswer movie choices kind e range outcome changes → HasFrames range.hold outcome
stop_frames movie choices kind e range outcome changes h = goal_frames _ kind e range.count range.states range.hold range.from outcome h.0.3 h.1
