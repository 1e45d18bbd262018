use Rattle.std.proofs.Common.{◌≡◌, length, subst, ap, ◌∙◌, arith}
use Rattle.indexmap.specs.IndexSet.{insert_all}
use Rattle.tas_search.specs.Inside.Arrivals.{are_same_arrivals, Finds}
use Rattle.tas_search.proofs.GrowLemmas.{finds_are}
use Rattle.tas_search.proofs.reaching.found.Goals as goal

pub returns-clause-finds : goal.returns-clause-finds
returns-clause-finds g c =
    let count : length c.in_ok-list.list.items ≡ c.len.result = omega (arith, c.len.ensures, c.in_ok-list.list.ok.0) in
    subst (Finds c.args.space.now c.args.place c.args.stretch.now c.insert_each.new.layer.keys) count
    (finds_are c.args.space.now c.args.place c.args.stretch.now c.in_ok-list.list.items c.new-found.result.keys c.insert_each.new.layer.keys c.in_ok-list.ensures c.new-found.ensures.empty
    (c.in_ok-insert_each.ensures ∙ ap (insert_all are_same_arrivals c.new-found.result.keys) c.as_slice.ensures.value))
