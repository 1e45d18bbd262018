use Rattle.std.proofs.Common.{◌-◌, length}
use Rattle.tas_engines.proofs.anchors.marks_of.Given as goal

abbrev pub decreases-loop-place : goal.decreases-loop-place
decreases-loop-place g l = length l.inputs - l.place
