use Rattle.std.proofs.lemmas.Grind.{common_steps}
use Rattle.std.proofs.Common.{◌≡◌, length, Bool, MatchBool, sym, ◌∙◌, ap, subst, ◌∷◌, [], ◌++◌, arith}
use Rattle.tas_published.specs.Inside.Registry.{latest}
use Rattle.tas_published.proofs.RegistryLemmas.{exchange_keeps, latest-push}
use Rattle.tas_published.proofs.version.Version.try_renew.Goals as goal

pub compare_exchange-found-requires : goal.compare_exchange-found-requires
compare_exchange-found-requires g c =
    let counter = c.requires in
    let offer = c.plain-offer.ensures in
    let pen = c.no_pen-pen.ensures in
    let registry = ap (λ m. m.registry) c.self.view_is ∙ sym (ap (λ w. w.book) counter) in (
      ap (λ w. w.tracked) counter,
      registry,
      pen.0 ∙ registry,
      offer.0,
      rw (ap (λ w. w.key) counter, pen.1, offer.1, offer.3) (exchange_keeps c.self.inside.seen.log c.args.journal.now.items c.self.inside.number (sym c.self.invariant)),
    )

pub returns-clause-history : goal.returns-clause-history
returns-clause-history g c = λ found.
    let now = c.compare_exchange-found.new.seen.log in
    let was = c.self.inside.seen.log in
    let ask = c.plain-offer.result.ask in
    let grown : now ≡ was ++ ask ∷ [] = subst (λ (b : Bool). MatchBool b (now ≡ was ++ ask ∷ []) (length now ≡ c.compare_exchange-found.result)) found c.compare_exchange-found.ensures.7 in
    ap latest grown ∙ latest-push was ask ∙ c.plain-offer.ensures.1

pub invariant_of-self : goal.invariant_of-self
invariant_of-self g c = grind (arith, common_steps)
