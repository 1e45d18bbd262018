use Rattle.std.proofs.lemmas.Grind.{common_steps}
use Rattle.std.proofs.Common.{◌+◌, length, sym, ap, subst, ◌∙◌, arith}
use Rattle.tas_desk.proofs.ZoneLemmas.{if_ok}
use Rattle.tas_seat.specs.Drafts.{DraftContent, draft_of}
use Rattle.tas_seat.specs.Inside.Drafting.{IsDraftShot, IsDraftPlayed}
use Rattle.tas_seat.proofs.DraftLemmas.{draft_drawn, shot_in, has_frame}
use Rattle.tas_seat.proofs.draft.Draft.shot.Goals as goal

pub unwrap-played-requires : goal.unwrap-played-requires
unwrap-played-requires g c =
    let len = c.len-len.ensures.len ∙ ap (λ (m : _). length m.inputs) c.movie.ensures.movie ∙ sym (ap (λ (x : DraftContent). length x.movie.inputs) c.self.view_is) in
    has_frame c.shot.result (length c.self.inside.view.movie.inputs) c.args.k c.shot.ensures.past (omega (arith, len, c.if-k-len.false))

pub returns : goal.returns
returns g c =
    let old = c.self.inside.view in
    let new = c.shot.new.self in
    let before = draft_of c.self.inside.at c.self.inside.base c.self.inside.made old in
    let now = draft_of c.self.inside.at c.self.inside.base c.self.inside.made new in
    let at = c.edits-at.ensures.at ∙ sym (ap (λ (x : DraftContent). x.at + x.made) c.self.view_is) in
    let ran = c.unwrap-played.result.ran in
    let end = c.unwrap-played.result.end in
    let ok = c.unwrap-played.ensures in
    let e = c.shot.ensures in
    subst (λ (x : DraftContent). IsDraftShot x now c.args.k c.shown.result) c.self.view_is
    (draft_drawn _ (IsDraftPlayed before now c.args.k) before now new.movie c.args.k c.edits-at.result ran _ end c.shown.result e.movie at (if_ok _ c.shot.result c.unwrap-played.result ok e.answer) (if_ok _ c.shot.result c.unwrap-played.result ok e.picture)
    (shot_in c.self.inside.at c.self.inside.made c.self.inside.base old new c.args.k ran e.movie e.near e.lawful (if_ok _ c.shot.result c.unwrap-played.result ok e.kept))
    c.shown.ensures.shot c.shown.ensures.halted)

pub returns-in_default : goal.returns-in_default
returns-in_default g c = grind (arith, common_steps)

pub returns-then-k-len : goal.returns-then-k-len
returns-then-k-len g c = grind (arith, common_steps)
