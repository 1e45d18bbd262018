use Rattle.std.proofs.Common.{◌≡◌, ◌*◌, length, take}
use Rattle.std.specs.List.{flat_map}
use Rattle.byte_text.specs.Digits.{hex_byte}
use Rattle.tas_engines.proofs.ram.ram_digits.Given as goal

abbrev pub invariant-loop-i : goal.invariant-loop-i
invariant-loop-i l = record {
  long : length l.digits ≡ 256;
  done : take (2 * l.i) l.digits ≡ flat_map hex_byte (take l.i l.ram);
}
