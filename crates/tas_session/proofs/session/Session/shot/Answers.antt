use Rattle.std.proofs.lemmas.Grind.{common_steps}
use Rattle.std.proofs.Common.{◌≡◌, ℕ, ◌+◌, ◌-◌, ◌≤◌, Some, length, ap, sym, ◌∙◌, subst₂, arith}
use Rattle.tas_movie.specs.Content.{MovieContent}
use Rattle.tas_green.specs.Green.{HoldsGrid}
use Rattle.tas_green.specs.Grid.{stride}
use Rattle.tas_green.specs.Run.{state_after}
use Rattle.tas_green.specs.Zone.{state_at, nearest, first_of, where_true, is_passed}
use Rattle.tas_session.specs.Session.{SessionContent}
use Rattle.tas_session.proofs.ShotLemmas.{session_shot, was_played, so_many}
use Rattle.tas_session.proofs.session.Session.shot.Goals as goal

pub returns-clause-reply : goal.returns-clause-reply
returns-clause-reply g c =
    let e = c.in-Ok-played.ensures in
    let movie = c.movie-2.ensures ∙ ap (λ (s : SessionContent _). s.movie) c.self.view_is in
    let near = c.nearest.ensures.value ∙ ap (λ (s : SessionContent _). nearest c.args.k s.zone) c.self.view_is in
    let bound = c.nearest.ensures.bound in
    let len = c.len-len.ensures.len ∙ ap (λ (m : MovieContent). length m.inputs) c.movie.ensures.movie in
    session_shot c.args.self.now _ _ _ (c.args.k + 1 - c.nearest.result) _ c.in-Ok-played.end _ movie c.at-at.ensures.at (omega (arith, near, bound)) (omega (arith, len)) e.answer e.picture c.shown.ensures.shot c.shown.ensures.halted

pub returns-clause-short : goal.returns-clause-short
returns-clause-short g c =
    let movie = c.movie-2.ensures ∙ ap (λ (s : SessionContent _). s.movie) c.self.view_is in
    let zone = ap (λ (s : SessionContent _). s.zone) c.self.view_is in
    let step = ap (λ (m : MovieContent). stride (length m.inputs)) movie in
    so_many _ _ (c.args.k + 1 - c.nearest.result) _ c.in-Ok-played.end _ (λ ran. HoldsGrid (stride (length c.args.self.now.movie.inputs)) c.args.k c.args.self.now.zone → ran ≤ stride (length c.args.self.now.movie.inputs))
    c.shown.ensures.shot c.shown.ensures.halted
    (λ all.
    let few = c.in-Ok-played.ensures.short (subst₂ (λ movie zone. HoldsGrid (stride (length movie.inputs)) c.args.k zone) (sym movie) (sym zone) all) in
    let rise = c.in-Ok-played.ensures.meter in
    let near = c.nearest.ensures.value in
    omega (arith, few, rise, near, step))

pub returns-clause-meter : goal.returns-clause-meter
returns-clause-meter g c =
    let near = ap (λ (s : SessionContent _). nearest c.args.k s.zone) c.self.view_is in
    let rise = c.in-Ok-played.ensures.meter in
    was_played _ _ _ _ c.in-Ok-played.end _ _ _ c.shown.ensures.shot c.shown.ensures.halted (omega (arith, near, rise))

pub returns-clause-kept : goal.returns-clause-kept
returns-clause-kept g c =
    let movie = c.movie-2.ensures ∙ ap (λ (s : SessionContent _). s.movie) c.self.view_is in
    was_played _ _ _ _ c.in-Ok-played.end _ _ _ c.shown.ensures.shot c.shown.ensures.halted
    (subst₂ (λ movie zone. (f : ℕ) → state_at f c.shot-played.new.self ≡ first_of (state_at f zone) (where_true (is_passed (stride (length movie.inputs)) (nearest c.args.k zone) (c.args.k + 1) f) (Some (state_after movie f))))
    movie (ap (λ (s : SessionContent _). s.zone) c.self.view_is) c.in-Ok-played.ensures.kept)

pub invariant_of-self-2 : goal.invariant_of-self-2
invariant_of-self-2 g c = grind (arith, common_steps)

pub invariant_of-self : goal.invariant_of-self
invariant_of-self g c = grind (arith, common_steps)

pub returns-in_default-played-clause-same : goal.returns-in_default-played-clause-same
returns-in_default-played-clause-same g c = grind (arith, common_steps)

pub returns-in_default-played-clause-reply : goal.returns-in_default-played-clause-reply
returns-in_default-played-clause-reply g c = grind (arith, common_steps)

pub returns-in_default-played-clause-kept : goal.returns-in_default-played-clause-kept
returns-in_default-played-clause-kept g c = grind (arith, common_steps)

pub returns-clause-same : goal.returns-clause-same
returns-clause-same g c = grind (arith, common_steps)

pub shot-played-requires-clause-lawful : goal.shot-played-requires-clause-lawful
shot-played-requires-clause-lawful g c = grind (arith, common_steps)

pub returns-in_default-played-clause-registry : goal.returns-in_default-played-clause-registry
returns-in_default-played-clause-registry g c = grind (arith, common_steps)

pub returns-clause-registry : goal.returns-clause-registry
returns-clause-registry g c = grind (arith, common_steps)

pub shot-played-requires-clause-within : goal.shot-played-requires-clause-within
shot-played-requires-clause-within g c = grind (arith, common_steps)

pub shot-played-requires-clause-room : goal.shot-played-requires-clause-room
shot-played-requires-clause-room g c = grind (arith, common_steps)
