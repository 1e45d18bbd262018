use Rattle.std.proofs.lemmas.Grind.{common_steps}
use Rattle.std.proofs.Common.{◌+◌, length, Ok, subst, sym, ap, ◌∙◌, arith}
use Rattle.tas_movie.specs.Content.{MovieContent}
use Rattle.tas_green.specs.Run.{state_after}
use Rattle.tas_session.specs.declared.replies.Reached.{Reached}
use Rattle.tas_desk.proofs.ZoneLemmas.{if_ok}
use Rattle.tas_seat.specs.Drafts.{DraftContent, draft_of}
use Rattle.tas_seat.specs.Inside.Drafting.{IsDraftStateFor}
use Rattle.tas_seat.proofs.DraftLemmas.{viewed_in, has_place}
use Rattle.tas_seat.proofs.draft.Draft.state_for.Goals as goal

pub unwrap-reached-requires : goal.unwrap-reached-requires
unwrap-reached-requires g c =
    let len = c.len-len.ensures.len ∙ ap (λ (m : MovieContent). length m.inputs) c.movie.ensures.movie ∙ sym (ap (λ (x : DraftContent). length x.movie.inputs) c.self.view_is) in
    has_place c.state.result (length c.self.inside.view.movie.inputs) c.args.from c.state.ensures.past (omega (arith, len, c.if-from-to.false, c.if-to-len.false))

pub returns : goal.returns
returns g c =
    let old = c.self.inside.view in
    let new = c.state.new.self in
    let before = draft_of c.self.inside.at c.self.inside.base c.self.inside.made old in
    let now = draft_of c.self.inside.at c.self.inside.base c.self.inside.made new in
    let at = c.edits-at.ensures.at ∙ sym (ap (λ (x : DraftContent). x.at + x.made) c.self.view_is) in
    let ran = c.unwrap-reached.result.ran in
    let ok = c.unwrap-reached.ensures in
    let e = c.state.ensures in
    let r : Reached = record { at = c.edits-at.result; ran = ran; state = c.unwrap-reached.result.state } in
    let len = c.len-len.ensures.len ∙ ap (λ (m : MovieContent). length m.inputs) c.movie.ensures.movie ∙ sym (ap (λ (x : DraftContent). length x.movie.inputs) c.self.view_is) in
    subst (λ (x : DraftContent). IsDraftStateFor x now c.args.from c.args.to (Ok r)) c.self.view_is (
      omega (arith, c.if-from-to.false),
      omega (arith, len, c.if-to-len.false),
      (if_ok _ c.state.result c.unwrap-reached.result ok e.state).1 ∙ ap (λ (m : MovieContent). state_after m c.args.from) e.movie,
      at,
      viewed_in c.self.inside.at c.self.inside.made c.self.inside.base old new c.args.from c.args.from ran e.movie e.lawful (if_ok _ c.state.result c.unwrap-reached.result ok e.kept),
    )

pub returns-then-from-to : goal.returns-then-from-to
returns-then-from-to g c = grind (arith, common_steps)

pub invariant_of-self : goal.invariant_of-self
invariant_of-self g c = grind (arith, common_steps)
