use Rattle.std.proofs.Common.{◌-◌, ◌≤◌}
use Rattle.tas_seat.specs.Seats.{IsPictureAt}
use Rattle.tas_seat.proofs.StripLemmas.{HasShown}
use Rattle.tas_seat.proofs.requests.answer_pictures.Given as goal

abbrev pub invariant-loop-frame : goal.invariant-loop-frame
invariant-loop-frame g l = record {
  most : l.frame - l.from ≤ l.to - l.from;
  shown : HasShown IsPictureAt l.fn.seat l.seat l.from l.frame l.bytes.items;
}
