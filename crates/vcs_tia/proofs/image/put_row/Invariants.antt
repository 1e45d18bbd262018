use Rattle.std.proofs.Common.{◌≡◌, ◌*◌, length, take, drop}
use Rattle.std.specs.List.{flat_map}
use Rattle.vcs_tia.specs.Image.{rgb_of}
use Rattle.vcs_tia.proofs.image.put_row.Given as goal

abbrev pub invariant-loop-i : goal.invariant-loop-i
invariant-loop-i l = record {
  long : length l.bytes ≡ 480;
  done : take (48 * l.i) l.bytes ≡ flat_map rgb_of (take (16 * l.i) l.pixels);
  left : drop (48 * l.i) l.bytes ≡ flat_map rgb_of (drop (16 * l.i) l.above);
}
