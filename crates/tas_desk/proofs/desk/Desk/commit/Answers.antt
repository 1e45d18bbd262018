use Rattle.tas_desk.proofs.CommitLemmas.{committed_at}
use Rattle.tas_desk.proofs.desk.Desk.commit.Goals as goal

pub returns : goal.returns
returns g c =
    let e = c.commit.ensures in
    committed_at _ _ c.args.seat.now c.commit.new.seat c.args.at _ _ e.begins e.receipt e.refusal e.memory e.done e.refused e.seat
