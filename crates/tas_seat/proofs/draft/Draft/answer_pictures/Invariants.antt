use Rattle.std.proofs.Common.{◌-◌, ◌≤◌}
use Rattle.tas_seat.specs.Drafts.{IsPictureIn}
use Rattle.tas_seat.proofs.StripLemmas.{HasShown}
use Rattle.tas_seat.proofs.draft.Draft.answer_pictures.Given as goal

abbrev pub invariant-loop-frame : goal.invariant-loop-frame
invariant-loop-frame g l = record {
  most : l.frame - l.from ≤ l.to - l.from;
  shown : HasShown IsPictureIn l.fn.self l.self l.from l.frame l.bytes.items;
}
