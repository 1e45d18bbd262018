use Rattle.std.proofs.Common.{◌≡◌, ◌+◌, refl, sym, ap, subst, ◌∙◌, None, arith}
use Rattle.tas_movie.specs.Content.{MovieContent}
use Rattle.tas_movie.specs.Edit.{edited, refusal}
use Rattle.tas_seat.specs.Drafts.{DraftContent}
use Rattle.tas_seat.specs.Inside.Drafting.{draft_after}
use Rattle.tas_seat.proofs.DraftEditLemmas.{made_in}
use Rattle.tas_seat.proofs.draft.Draft.make.Goals as goal

pub unwrap-requires : goal.unwrap-requires
unwrap-requires g c =
    let allowed : refusal c.self.inside.view.movie c.args.edit.now ≡ None = ap (λ (x : DraftContent). refusal x.movie c.args.edit.now) c.self.view_is ∙ c.requires.allowed in
    rw (c.edit.ensures.answer, allowed) refl

pub returns : goal.returns
returns g c =
    made_in c.self.inside.at c.self.inside.made c.self.inside.base c.self.inside.view c.edit.new.self c.args.edit.now c.edit.result c.unwrap.result c.unwrap.ensures c.edit.ensures.movie c.edit.ensures.states c.edit.ensures.near
    ∙ ap (λ (x : DraftContent). draft_after x c.args.edit.now) c.self.view_is

pub invariant_of-self : goal.invariant_of-self
invariant_of-self g c =
    let count : c.self.inside.at + c.self.inside.made ≡ c.args.self.now.at + c.args.self.now.made = ap (λ (x : DraftContent). x.at + x.made) c.self.view_is in
    let kept = subst (λ (x : DraftContent). (edited x.movie c.args.edit.now).cart ≡ x.movie.cart) (sym c.self.view_is) c.requires.cart in
    record {
      most = omega (arith, count, c.requires.room);
      cart = ap (λ (m : MovieContent). m.cart) c.edit.ensures.movie ∙ kept ∙ c.self.invariant.cart;
      lawful = c.edit.ensures.lawful.states;
      window = c.edit.ensures.lawful.near;
    }
