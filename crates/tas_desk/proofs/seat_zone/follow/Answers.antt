use Rattle.tas_green.proofs.MovingLemmas.{moved_same}
use Rattle.tas_green.proofs.WindowLemmas.{window_moved_same}
use Rattle.tas_desk.proofs.seat_zone.follow.Goals as goal

pub returns-in_default-clause-brought : goal.returns-in_default-clause-brought
returns-in_default-clause-brought g c = record {
  states = moved_same c.args.view.now.movie c.args.view.now.states c.requires.lawful.states;
  near = window_moved_same c.args.view.now.movie c.args.view.now.near c.requires.lawful.near;
}
