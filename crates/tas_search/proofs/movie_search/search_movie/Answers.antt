use Rattle.std.proofs.Common.{◌≡◌, ℕ, ◌+◌, ◌*◌, ◌≤◌, length, refl, Err, ap, subst, ◌∙◌, arith}
use Rattle.tas_movie.specs.Content.{most_inputs}
use Rattle.tas_search.specs.Space.{SpaceContent}
use Rattle.tas_search.specs.Outcome.{outcome_of}
use Rattle.tas_search.specs.GoalAnswer.{IsGoalAnswer}
use Rattle.std.proofs.lemmas.Result.{err_from_is_err_and}
use Rattle.tas_search.specs.Logs.{log_bytes}
use Rattle.tas_search.specs.Reported.{IsReported}
use Rattle.tas_search.specs.MovieSearch.{space_of}
use Rattle.tas_search.specs.Inside.FoundChanges.{AreChangesOf}
use Rattle.tas_search.proofs.MovieSearchLemmas.{found_fits, reported_stops, writes_found}
use Rattle.tas_search.proofs.movie_search.search_movie.Goals as goal

pub found_changes-requires : goal.found_changes-requires
found_changes-requires g c =
    let range = c.args.range in
    let hold : c.bounded-space.result.hold ≡ range.hold = ap (λ (s : SpaceContent). s.hold) c.bounded-space.ensures ∙ ap (λ (s : SpaceContent). s.hold) c.new.ensures in
    let le : range.from + range.count * range.hold ≤ most_inputs = c.fits.ensures.0 c.if-not-fits.false in
    record { fits = found_fits c.bounded-space.result c.args.goal.now.kind c.args.goal.now.formula range.count range.states range.from (outcome_of c.in_ok-found.found) (rw hold le) c.in_ok-found.ensures.found }

pub returns-clause-found : goal.returns-clause-found
returns-clause-found g c =
    let movie = c.args.movie.now in
    let choices = c.args.choices.now in
    let range = c.args.range in
    let kind = c.args.goal.now.kind in
    let formula = c.args.goal.now.formula in
    let found = outcome_of c.in_ok-found.found in
    let space : c.bounded-space.result ≡ space_of movie choices range = rw (c.bounded-space.ensures, c.new.ensures, c.in-Some.ensures.low, c.in-Some.ensures.high, c.cart.ensures, c.state_at-start.ensures) refl in
    let le : range.from + range.count * range.hold ≤ most_inputs = c.fits.ensures.0 c.if-not-fits.false in
    let answer : IsGoalAnswer (space_of movie choices range) kind formula range.count range.states found =
    subst (λ (s : SpaceContent). IsGoalAnswer s kind formula range.count range.states found) space c.in_ok-found.ensures.found in
    let are : AreChangesOf (length movie.inputs) range.from (space_of movie choices range) found c.in_ok-changes.changes.items =
    subst (λ (s : SpaceContent). AreChangesOf (length movie.inputs) range.from s found c.in_ok-changes.changes.items) space
    (subst (λ (n : ℕ). AreChangesOf n range.from c.bounded-space.result found c.in_ok-changes.changes.items) c.len-2.ensures.len c.in_ok-changes.ensures) in (
      (omega (arith, c.if-len-range.false, c.len.ensures.len), omega (arith, c.if-range-eq0.false), c.in-Some.ensures.part, le),
      answer,
      writes_found movie choices range found c.in_ok-changes.changes.items c.changes_write_the_sequence.ensures (omega (arith, c.if-len-range.false, c.len.ensures.len))
          (found_fits (space_of movie choices range) kind formula range.count range.states range.from found le answer) are,
    )

pub returns-clause-reported : goal.returns-clause-reported
returns-clause-reported g c =
    let space : c.bounded-space.result ≡ space_of c.args.movie.now c.args.choices.now c.args.range = rw (c.bounded-space.ensures, c.new.ensures, c.in-Some.ensures.low, c.in-Some.ensures.high, c.cart.ensures, c.state_at-start.ensures) refl in
    subst (λ (s : SpaceContent). IsReported s c.args.range.count (outcome_of c.in_ok-found.found) (log_bytes (g.E.Write.contents c.args.errors.now) (g.P.Write.contents c.args.report.now)) (log_bytes (g.E.Write.contents c.find_goal.new.errors) (g.P.Write.contents c.find_goal.new.report))) space c.in_ok-found.ensures.reported

pub returns-in_err-changes-clause-cut : goal.returns-in_err-changes-clause-cut
returns-in_err-changes-clause-cut g c =
    let space : c.bounded-space.result ≡ space_of c.args.movie.now c.args.choices.now c.args.range = rw (c.bounded-space.ensures, c.new.ensures, c.in-Some.ensures.low, c.in-Some.ensures.high, c.cart.ensures, c.state_at-start.ensures) refl in
    let told = err_from_is_err_and c.from_residual-in_err-changes.result c.from_residual-in_err-changes.ensures.1 in
    let reported = subst (λ (s : SpaceContent). IsReported s c.args.range.count (outcome_of c.in_ok-found.found) (log_bytes (g.E.Write.contents c.args.errors.now) (g.P.Write.contents c.args.report.now)) (log_bytes (g.E.Write.contents c.find_goal.new.errors) (g.P.Write.contents c.find_goal.new.report))) space c.in_ok-found.ensures.reported in
    let answer = subst (λ (s : SpaceContent). IsGoalAnswer s c.args.goal.now.kind c.args.goal.now.formula c.args.range.count c.args.range.states (outcome_of c.in_ok-found.found)) space c.in_ok-found.ensures.found in
    rw (told.1 ∙ ap Err told.2) (reported_stops (space_of c.args.movie.now c.args.choices.now c.args.range) c.args.goal.now.kind c.args.goal.now.formula c.args.range.count c.args.range.states (outcome_of c.in_ok-found.found) (log_bytes (g.E.Write.contents c.args.errors.now) (g.P.Write.contents c.args.report.now)) (log_bytes (g.E.Write.contents c.find_goal.new.errors) (g.P.Write.contents c.find_goal.new.report)) answer reported)
