use Rattle.std.proofs.Common.{◌≡◌, map, take}
use Rattle.tas_verify.specs.Lines.{end_of, end_lines}
use Rattle.tas_verify.proofs.lines.lines_text.Given as goal

abbrev pub invariant-loop-one : goal.invariant-loop-one
invariant-loop-one g l = l.text.items ≡ end_lines (map end_of (take l.one-index l.verified))
