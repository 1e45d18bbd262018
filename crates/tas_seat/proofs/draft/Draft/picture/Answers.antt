use Rattle.std.proofs.lemmas.Grind.{common_steps}
use Rattle.std.proofs.Common.{◌+◌, length, sym, ap, subst, ◌∙◌, arith}
use Rattle.std.specs.Prelude.{OnOk}
use Rattle.tas_green.specs.View.{both_of}
use Rattle.tas_green.specs.Window.{IsOneAway}
use Rattle.tas_desk.proofs.ZoneLemmas.{if_ok}
use Rattle.tas_seat.specs.Drafts.{DraftContent, draft_of}
use Rattle.tas_seat.specs.Inside.Drafting.{IsDraftPicture, IsDraftViewed}
use Rattle.tas_seat.proofs.DraftLemmas.{draft_drawn, viewed_in, has_frame}
use Rattle.tas_seat.proofs.TextLemmas.{on_ok}
use Rattle.tas_seat.proofs.draft.Draft.picture.Goals as goal

pub unwrap-viewed-requires : goal.unwrap-viewed-requires
unwrap-viewed-requires g c =
    let len = c.len-len.ensures.len ∙ ap (λ (m : _). length m.inputs) c.movie.ensures.movie ∙ sym (ap (λ (x : DraftContent). length x.movie.inputs) c.self.view_is) in
    has_frame c.picture.result (length c.self.inside.view.movie.inputs) c.args.k c.picture.ensures.past (omega (arith, len, c.if-k-len.false))

pub returns-clause-picture : goal.returns-clause-picture
returns-clause-picture g c =
    let old = c.self.inside.view in
    let new = c.picture.new.self in
    let before = draft_of c.self.inside.at c.self.inside.base c.self.inside.made old in
    let now = draft_of c.self.inside.at c.self.inside.base c.self.inside.made new in
    let at = c.edits-at.ensures.at ∙ sym (ap (λ (x : DraftContent). x.at + x.made) c.self.view_is) in
    let ran = c.unwrap-viewed.result.ran in
    let end = c.unwrap-viewed.result.end in
    let ok = c.unwrap-viewed.ensures in
    let e = c.picture.ensures in
    subst (λ (x : DraftContent). IsDraftPicture x now c.args.k c.shown.result) c.self.view_is
    (draft_drawn _ (IsDraftViewed before now c.args.k (c.args.k + 1)) before now new.movie c.args.k c.edits-at.result ran _ end c.shown.result e.movie at (if_ok _ c.picture.result c.unwrap-viewed.result ok e.answer) (if_ok _ c.picture.result c.unwrap-viewed.result ok e.picture)
    (viewed_in c.self.inside.at c.self.inside.made c.self.inside.base old new c.args.k (c.args.k + 1) ran e.movie e.lawful (if_ok _ c.picture.result c.unwrap-viewed.result ok e.kept))
    c.shown.ensures.shot c.shown.ensures.halted)

pub returns-clause-forward : goal.returns-clause-forward
returns-clause-forward g c =
    let new = c.picture.new.self in
    on_ok c.shown.result (IsOneAway new.movie (c.args.k + 1) (both_of new)) (subst (λ (r : _). OnOk r (IsOneAway new.movie (c.args.k + 1) (both_of new))) c.unwrap-viewed.ensures c.picture.ensures.forward)

pub returns-in_default-clause-picture : goal.returns-in_default-clause-picture
returns-in_default-clause-picture g c = grind (arith, common_steps)

pub returns-then-k-len-clause-picture : goal.returns-then-k-len-clause-picture
returns-then-k-len-clause-picture g c = grind (arith, common_steps)
