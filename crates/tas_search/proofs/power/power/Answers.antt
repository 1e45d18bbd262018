use Rattle.std.proofs.Common.{List, ℕ, [], ◌∷◌, ◌++◌, ap, ◌∙◌}
use Rattle.tas_search.proofs.PowerLemmas.{one_low, own_value, power_whole}
use Rattle.tas_search.proofs.power.power.Goals as goal

pub times_power-requires-clause-digits : goal.times_power-requires-clause-digits
times_power-requires-clause-digits g c =
    own_value c.push.new.self.items _ (one_low c.args.base c.push.new.self.items (c.in_ok-push.ensures.items ∙ ap (λ (xs : List ℕ). xs ++ 49 ∷ []) c.new-one.ensures.items))

pub times_power-requires-2-clause-digits : goal.times_power-requires-2-clause-digits
times_power-requires-2-clause-digits g c = own_value c.in_ok-most.most.items _ c.in_ok-most.ensures

pub returns : goal.returns
returns g c =
    let power = c.greatest_power-factor.ensures in
    power_whole c.push.new.self.items c.in_ok-most.most.items c.in_ok-all.all.items c.args.base c.greatest_power-factor.result.0 c.greatest_power-factor.result.1 c.args.exponent
    (c.in_ok-push.ensures.items ∙ ap (λ (xs : List ℕ). xs ++ 49 ∷ []) c.new-one.ensures.items) power.power c.in_ok-most.ensures c.in_ok-all.ensures
