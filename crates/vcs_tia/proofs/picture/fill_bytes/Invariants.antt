use Rattle.std.proofs.Common.{◌≡◌, length}
use Rattle.vcs_tia.specs.Inside.Spans.{filled}
use Rattle.vcs_tia.proofs.picture.fill_bytes.Given as goal

abbrev pub invariant-loop-i : goal.invariant-loop-i
invariant-loop-i l = record {
  all : length l.bytes ≡ length l.fn.bytes;
  done : l.bytes ≡ filled l.fn.bytes l.start l.i (λ _. l.value);
}
