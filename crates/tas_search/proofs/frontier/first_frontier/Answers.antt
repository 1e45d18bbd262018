use Rattle.std.proofs.Common.{[], ◌∷◌, ◌++◌, List, ap, ◌∙◌}
use Rattle.tas_search.specs.declared.arrival.Step.{Step}
use Rattle.tas_search.specs.Inside.Arrivals.{no_step}
use Rattle.tas_search.proofs.ArrivalLemmas.{first_frontier_is}
use Rattle.tas_search.proofs.frontier.first_frontier.Goals as goal

pub returns-clause-frontier : goal.returns-clause-frontier
returns-clause-frontier g c =
    first_frontier_is c.args.space.now c.pack.result c.push.new.self.items c.new-layer.result.keys c.insert.new.self.keys (c.pack.ensures ∙ c.start.ensures)
    (c.in_ok-push.ensures.items ∙ ap (λ (xs : List Step). xs ++ no_step ∷ []) c.new-parents.ensures.items) c.new-layer.ensures.empty c.in_ok-insert.ensures.keys
