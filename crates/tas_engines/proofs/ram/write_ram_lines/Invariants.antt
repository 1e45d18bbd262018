use Rattle.std.proofs.Common.{◌≡◌, ◌+◌, ◌-◌, ◌*◌, ◌≤◌, length}
use Rattle.std.specs.Io.KnownBytes.{Appends}
use Rattle.tas_green.specs.Run.{state_after}
use Rattle.tas_engines.specs.Inside.RamLines.{line_size, told_names}
use Rattle.tas_engines.specs.Ram.{ram_line}
use Rattle.tas_engines.proofs.StreamLemmas.{pieces}
use Rattle.tas_engines.proofs.ram.write_ram_lines.Given as goal

abbrev pub invariant-loop-k : goal.invariant-loop-k
invariant-loop-k g l = record {
  state : l.state ≡ state_after l.movie l.k;
  out : Appends (g.W.Write.contents l.fn.output) (g.W.Write.contents l.output) (pieces (ram_line (told_names l.lines.names) l.movie) l.lines.from l.k);
  count : l.written ≡ l.before + length (pieces (ram_line (told_names l.lines.names) l.movie) l.lines.from l.k);
  most : l.written ≤ l.before + 4294967296 * (l.k - l.lines.from);
  size : length l.buffer ≡ line_size l.lines.names;
  room : length l.buffer ≤ 4294967296;
}
