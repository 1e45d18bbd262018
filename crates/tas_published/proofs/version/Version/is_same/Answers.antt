use Rattle.std.proofs.Common.{◌≡◌, length, sym, ap, ◌∙◌, subst, arith}
use mathlib.Core.List.{IsPrefix}
use Rattle.logbook.specs.Pages.{Book}
use Rattle.tas_published.specs.Inside.Registry.{Numbered, latest}
use Rattle.tas_published.specs.Version.{version_of}
use Rattle.tas_published.proofs.PrefixLemmas.{prefix_same}
use Rattle.tas_published.proofs.version.Version.is_same.Goals as goal

same_version : {A : Type 0} (b c : Book) (xs ys : Numbered A) → b ≡ c → xs ≡ ys → version_of b (latest xs) ≡ version_of c (latest ys)
same_version b c xs ys p q = λ i. version_of (p i) (latest (q i))

pub learn-requires : goal.learn-requires
learn-requires g c = ap (λ m. m.registry) c.other.view_is ∙ sym c.requires ∙ sym (ap (λ m. m.registry) c.self.view_is) ∙ sym (ap (λ s. s.book) c.again-both.ensures)

-- both lists of histories begin one list and are of one length
pub returns : goal.returns
returns g c = λ _.
    let both = c.learn.new.self.log in
    let this : IsPrefix c.self.inside.seen.log both = subst (λ (l : Numbered _). IsPrefix l both) (ap (λ s. s.log) c.again-both.ensures) c.learn.ensures.2 in
    let size : length c.self.inside.seen.log ≡ length c.other.inside.seen.log = omega (arith, c.self.invariant, c.other.invariant) in
    let registries = ap (λ m. m.registry) c.self.view_is ∙ c.requires ∙ sym (ap (λ m. m.registry) c.other.view_is) in
    let histories = prefix_same c.self.inside.seen.log c.other.inside.seen.log both this c.learn.ensures.3 size in
    sym c.self.view_is ∙ same_version c.self.inside.seen.book c.other.inside.seen.book c.self.inside.seen.log c.other.inside.seen.log registries histories ∙ c.other.view_is
