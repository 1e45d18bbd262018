use Rattle.std.proofs.Common.{◌≡◌, ◌≤◌, ◌+◌, List, length, map}
use Rattle.tas_verify.specs.Manifest.{Reads, Said, words_in}
use Rattle.tas_verify.proofs.manifest.read_manifest.Given as goal

-- the lines before the rest are read
abbrev pub invariant-loop-rest : goal.invariant-loop-rest
invariant-loop-rest g l = (lines : List Said) × record {
  reads : Reads l.bytes (map words_in l.rows.items) lines l.rest;
  number : l.number ≡ length lines + 1;
  room : l.number + length l.rest ≤ length l.bytes + 1;
}

abbrev pub decreases-loop-rest : goal.decreases-loop-rest
decreases-loop-rest g l = length l.rest
