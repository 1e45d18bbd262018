use Rattle.std.proofs.Common.{◌≡◌, ◌+◌, ◌-◌, ◌*◌, ◌≤◌}
use Rattle.vcs_tia.specs.Inside.Spans.{filled}
use Rattle.vcs_tia.proofs.Drawing.{lit_colour}
use Rattle.vcs_tia.proofs.chip.Tia.draw_pixels.Given as goal

abbrev pub invariant-loop-at : goal.invariant-loop-at
invariant-loop-at g l = record {
  from : l.x ≤ l.at;
  to : l.at ≤ l.end;
  picture : l.picture ≡ filled l.fn.picture (l.row * 160 + l.x) (l.at - l.x) (lit_colour l.self l.x);
}

abbrev pub decreases-loop-at : goal.decreases-loop-at
decreases-loop-at g l = l.end - l.at
