-- A search answers one thing to its inputs.
use Rattle.std.proofs.Common.{◌≡◌, ℕ, Bool, true, false, List, length, sym, ap, subst, ◌∙◌}
use Rattle.std.specs.List.{flat_map}
use Rattle.vcs_inputs.specs.declared.input.Input.{Input}
use Rattle.tas_movie.specs.Content.{MovieContent}
use Rattle.tas_movie.proofs.TextLemmas.{frames_same}
use Rattle.tas_movie.proofs.TwoTexts.{one_movie}
use Rattle.tas_engines.specs.Movies.{IsMovieOf}
use Rattle.tas_engines.specs.Names.{Names}
use Rattle.tas_engines.specs.Scripts.{change_line}
use Rattle.tas_search.specs.declared.goal.GoalKind.{GoalKind}
use Rattle.tas_search.specs.declared.movie_search.SearchRange.{SearchRange}
use Rattle.tas_search.specs.declared.space_part.SpacePart.{SpacePart}
use Rattle.tas_search.specs.Grammar.{Tree}
use Rattle.tas_search.specs.GoalText.{IsGoalText}
use Rattle.tas_search.specs.Logs.{LogBytes}
use Rattle.tas_search.specs.MovieSearch.{WritesFound, space_of}
use Rattle.tas_search.specs.Outcome.{Outcome}
use Rattle.tas_search.specs.Reported.{IsReported, DifferInTimes}
use Rattle.tas_search.specs.SearchText.{SearchInputs, IsRangeOf, AreGiven, IsGoalOver, IsFoundText, IsSearchText}
use Rattle.tas_search.specs.Space.{SpaceContent}
use Rattle.tas_search.specs.Verdict.{IsVerdict}
use Rattle.tas_search.proofs.OneAnswer.{one_answer}
use Rattle.tas_search.proofs.OneGoal.{one_goal}
use Rattle.tas_search.proofs.OneText.{one_names, ranges, one_count, one_verdict, verdict_same, one_change, one_report}

-- ---- what the inputs say

same_movie : (image bytes : List ℕ) (a b : MovieContent) → IsMovieOf image bytes a → IsMovieOf image bytes b → a ≡ b
same_movie image bytes a b h g = one_movie bytes a b (h.cart ∙ sym g.cart) h.most g.most h.text g.text

same_choices : (given : Bool) (text : List ℕ) (a b : List Input) → AreGiven given text a → AreGiven given text b → a ≡ b
same_choices true text a b h g = frames_same a b (sym h.is ∙ g.is)
same_choices false text a b h g = h ∙ sym g

same_goal : (names text : List ℕ) (j k : GoalKind) (d e : Tree) → IsGoalOver names text j d → IsGoalOver names text k e → (j ≡ k) × (d ≡ e)
same_goal names text j k d e h g =
    one_goal g.known text j k d e
    (subst (λ (known : Names). IsGoalText known text j d) (one_names names h.known g.known h.names_are g.names_are) h.goal_is) g.goal_is

-- the same range, but for the number of workers
abbrev with_workers : SearchRange → ℕ → SearchRange
with_workers range workers = record range { workers = workers }

same_range : (from frames hold states : ℕ) (part : SpacePart) (a b : SearchRange) → IsRangeOf from frames hold states part a → IsRangeOf from frames hold states part b → b ≡ with_workers a b.workers
same_range from frames hold states part a b h g =
    ranges b.from b.count b.hold b.states b.workers a.from a.count a.hold a.states b.part a.part (g.from_is ∙ sym h.from_is) (one_count b.count a.count hold frames h.some g.count h.count) (g.hold_is ∙ sym h.hold_is)
    (g.states_is ∙ sym h.states_is) (g.part_is ∙ sym h.part_is)

-- ---- the answer

-- two texts of one search
abbrev Same : (script script' verdict verdict' : List ℕ) (old new old' new' : LogBytes) → Type 0
Same script script' verdict verdict' old new old' new' = (script ≡ script') × (verdict ≡ verdict') × DifferInTimes old new old' new'

module _ (movie : MovieContent) (inputs : List Input) (kind : GoalKind) (d e : Tree) (range : SearchRange) (workers : ℕ) (script script' verdict verdict' : List ℕ) (old new old' new' : LogBytes) where
  abbrev s : SpaceContent
  s = space_of movie inputs range

  found_same : d ≡ e → IsFoundText movie inputs kind d range script verdict old new → IsFoundText movie inputs kind e (with_workers range workers) script' verdict' old' new'
      → Same script script' verdict verdict' old new old' new'
  found_same trees h g =
      let outcome : g.outcome ≡ h.outcome = sym (one_answer s kind d e range.count range.states h.outcome g.outcome trees h.answer.1 g.answer.1) in
      let writes : WritesFound movie range s h.outcome g.changes = subst (λ (o : Outcome). WritesFound movie range s o g.changes) outcome g.answer.2 in
      let said : IsVerdict kind range (length inputs) h.outcome verdict' = subst (λ (o : Outcome). IsVerdict kind range (length inputs) o verdict') outcome (verdict_same kind range workers (length inputs) g.outcome verdict' g.verdict_is) in
      let told : IsReported s range.count h.outcome old' new' = subst (λ (o : Outcome). IsReported s range.count o old' new') outcome g.reported in (
        h.script_is ∙ ap (flat_map change_line) (one_change movie range s h.outcome h.changes g.changes h.answer.2 writes) ∙ sym g.script_is,
        one_verdict kind range (length inputs) h.outcome verdict verdict' h.verdict_is said,
        one_report s range.count h.outcome old new old' new' h.reported told,
      )

pub one_text : (i : SearchInputs) (script script' verdict verdict' : List ℕ) (old new old' new' : LogBytes) → IsSearchText i script verdict old new → IsSearchText i script' verdict' old' new'
    → (script ≡ script') × (verdict ≡ verdict') × DifferInTimes old new old' new'
one_text i script script' verdict verdict' old new old' new' h g =
    let movies : g.movie ≡ h.movie = same_movie i.image i.movie g.movie h.movie g.said.movie_is h.said.movie_is in
    let choices : g.inputs ≡ h.inputs = same_choices i.has_choices i.choices g.inputs h.inputs g.said.choices_are h.said.choices_are in
    let goals = same_goal i.names i.goal g.kind h.kind g.e h.e g.said.goal_is h.said.goal_is in
    let range : g.range ≡ with_workers h.range g.range.workers = same_range i.from i.frames i.hold i.states i.part h.range g.range h.said.range_is g.said.range_is in
    let first : IsFoundText h.movie g.inputs g.kind g.e g.range script' verdict' old' new' = subst (λ (m : MovieContent). IsFoundText m g.inputs g.kind g.e g.range script' verdict' old' new') movies g.found in
    let second : IsFoundText h.movie h.inputs g.kind g.e g.range script' verdict' old' new' = subst (λ (c : List Input). IsFoundText h.movie c g.kind g.e g.range script' verdict' old' new') choices first in
    let third : IsFoundText h.movie h.inputs h.kind g.e g.range script' verdict' old' new' = subst (λ (k : GoalKind). IsFoundText h.movie h.inputs k g.e g.range script' verdict' old' new') goals.0 second in
    let last : IsFoundText h.movie h.inputs h.kind g.e (with_workers h.range g.range.workers) script' verdict' old' new' =
    subst (λ (r : SearchRange). IsFoundText h.movie h.inputs h.kind g.e r script' verdict' old' new') range third in
    found_same h.movie h.inputs h.kind h.e g.e h.range g.range.workers script script' verdict verdict' old new old' new' (sym goals.1) h.found last
