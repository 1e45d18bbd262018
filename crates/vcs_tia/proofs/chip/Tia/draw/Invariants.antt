use Rattle.std.proofs.Common.{◌≡◌, ◌+◌}
use Rattle.vcs_tia.specs.Beam.{beam_clocks}
use Rattle.vcs_tia.specs.Trace.{trace, drawn}
use Rattle.vcs_tia.proofs.Meeting.{with_beam}
use Rattle.vcs_tia.proofs.chip.Tia.draw.Given as goal

abbrev pub invariant-loop-left : goal.invariant-loop-left
invariant-loop-left g l = record {
  picture : drawn (trace l.left (with_beam l.self l.beam)) l.picture ≡ drawn (trace l.clocks l.self) l.fn.picture;
  beam : beam_clocks l.beam + l.left ≡ beam_clocks l.self.beam + l.clocks;
}

abbrev pub decreases-loop-left : goal.decreases-loop-left
decreases-loop-left g l = l.left
