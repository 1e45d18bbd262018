use Rattle.std.proofs.lemmas.Grind.{common_steps}
use Rattle.std.proofs.Common.{◌+◌, ◌==◌, [], ◌∷◌, ◌++◌, length, refl, ap, sym, ◌∙◌, subst, append_assoc, arith}
use Rattle.std.specs.Prelude.{if◌then◌else◌}
use Rattle.tas_movie.specs.Content.{MovieContent}
use Rattle.tas_movie.specs.Edit.{edited}
use Rattle.tas_session.specs.Inside.Counts.{count_in}
use Rattle.tas_published.specs.Published.{PublisherContent}
use Rattle.tas_session.specs.Session.{SessionContent}
use Rattle.tas_published.specs.Strokes.{AreNext}
use Rattle.tas_session.proofs.SoundLemmas.{sound_edited, counted_after}
use Rattle.tas_session.proofs.session.Session.accept_both.Goals as goal

pub invariant_of-self-2 : goal.invariant_of-self-2
invariant_of-self-2 g c =
    let next = c.args.next in
    let last = c.args.last in
    let was = c.self.inside.publisher in
    let once = was.journal ++ next ∷ [] in
    let between = edited was.movie next.edit in
    let may = subst (λ (s : SessionContent _). AreNext s.journal (next ∷ last ∷ [])) (sym c.self.view_is) c.requires.next in
    let done = c.in_ok-push_step.ensures.done in
    let pushed = ap (λ (s : PublisherContent _). s.journal) done ∙ sym (append_assoc was.journal (next ∷ []) (last ∷ [])) in
    let movie = ap (λ (s : PublisherContent _). s.movie) done in
    let len = c.len_after-len.ensures ∙ ap (λ (m : MovieContent). length (edited m next.edit).inputs) c.movie.ensures in
    let len_now = c.len.ensures.len ∙ ap (λ (m : MovieContent). length m.inputs) c.movie-2.ensures in
    let first = sound_edited was.journal once was.movie between c.self.inside.green c.cut.new.self next _ _ c.self.invariant.0 may.0 refl refl c.place-place.ensures len c.cut.ensures.lawful in (
      sound_edited once _ between _ c.cut.new.self c.cut-2.new.self last _ _ first may.1.0 pushed movie c.place-later.ensures len_now c.cut-2.ensures.lawful,
      λ seat.
          let one = counted_after was.journal once next seat _ _ _ (c.self.invariant.1 seat) (c.in_ok-reserve.ensures.same seat) (c.add.ensures seat) refl in
          let step = c.add-2.ensures seat ∙ ap (λ n. count_in c.add.new.self seat + (if n == seat then 1 else 0)) (sym c.requires.seat) in
          counted_after once _ last seat _ _ _ one refl step pushed,
    )

pub add-requires-clause-bound : goal.add-requires-clause-bound
add-requires-clause-bound g c = grind (arith, common_steps)

pub add-requires-2-clause-bound : goal.add-requires-2-clause-bound
add-requires-2-clause-bound g c = grind (arith, common_steps)

pub returns-clause-done : goal.returns-clause-done
returns-clause-done g c = grind (arith, common_steps)

pub add-requires-2-clause-room : goal.add-requires-2-clause-room
add-requires-2-clause-room g c = grind (arith, common_steps)

pub invariant_of-self-in_err-push_step : goal.invariant_of-self-in_err-push_step
invariant_of-self-in_err-push_step g c = grind (arith, common_steps)

pub invariant_of-self : goal.invariant_of-self
invariant_of-self g c = grind (arith, common_steps)
