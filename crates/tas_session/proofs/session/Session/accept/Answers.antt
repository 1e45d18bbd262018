use Rattle.std.proofs.lemmas.Grind.{common_steps}
use Rattle.std.proofs.Common.{◌∙◌, ap, length, rules, arith}
use Rattle.tas_published.specs.Published.{PublisherContent}
use Rattle.tas_session.specs.Session.{SessionContent}
use Rattle.tas_session.proofs.SoundLemmas.{sound_edited, counted_after, same_next}
use Rattle.tas_session.proofs.session.Session.accept.Goals as goal

pub invariant_of-self-2 : goal.invariant_of-self-2
invariant_of-self-2 g c =
    let done = c.in_ok-push.ensures.done in
    let pushed = ap (λ (s : PublisherContent _). s.journal) done in
    let movie = ap (λ (s : PublisherContent _). s.movie) done in
    let was = c.self.inside.publisher in
    let next = same_next was.journal _ c.args.next (ap (λ (s : SessionContent _). s.journal) c.self.view_is) c.requires in
    let len = c.len.ensures.len ∙ ap (λ m. length m.inputs) c.movie.ensures in (
      sound_edited was.journal _ was.movie _ _ _ c.args.next _ _ c.self.invariant.0 next pushed movie c.place-place.ensures len c.cut.ensures.lawful,
      λ seat. counted_after was.journal _ c.args.next seat _ _ _ (c.self.invariant.1 seat) (c.in_ok-reserve.ensures.same seat) (c.add.ensures seat) pushed,
    )

pub returns-clause-done : goal.returns-clause-done
returns-clause-done g c = search rules

pub add-requires-clause-bound : goal.add-requires-clause-bound
add-requires-clause-bound g c = grind (arith, common_steps)

pub invariant_of-self : goal.invariant_of-self
invariant_of-self g c = grind (arith, common_steps)

pub invariant_of-self-in_err-push : goal.invariant_of-self-in_err-push
invariant_of-self-in_err-push g c = grind (arith, common_steps)
