use Rattle.tas_verify.proofs.WorkerLemmas.{played_there}
use Rattle.tas_verify.proofs.workers.play_each.Goals as goal

pub returns : goal.returns
returns g c k d lt =
    let given = (c.for_each_mut.ensures k d lt).1 in
    played_there (g.S.Shelf.facts c.args.shelf.now) _ _ _ _ given.argument_is given.left given.call
