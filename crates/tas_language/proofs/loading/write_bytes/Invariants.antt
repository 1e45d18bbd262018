use Rattle.std.proofs.Common.{◌≡◌, ◌*◌, length, take}
use Rattle.tas_language.specs.Parts.{hex_text, IsBytes}
use Rattle.tas_language.proofs.loading.write_bytes.Given as goal

abbrev pub invariant-loop-k : goal.invariant-loop-k
invariant-loop-k l = record {
  len : length l.buffer ≡ length l.fn.buffer;
  bytes : IsBytes l.buffer;
  done : take (2 * l.k) l.digits ≡ hex_text (take l.k l.buffer);
}
