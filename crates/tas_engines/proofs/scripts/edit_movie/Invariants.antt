use Rattle.std.proofs.Common.{◌≡◌, ◌≤◌, ◌+◌, List, length}
use Rattle.tas_engines.specs.Scripts.{MakesLines, Said}
use Rattle.tas_engines.proofs.scripts.edit_movie.Given as goal

-- the lines before the rest are made
abbrev pub invariant-loop-rest : goal.invariant-loop-rest
invariant-loop-rest g l = (lines : List Said) × record {
  makes : MakesLines l.other l.fn.movie l.bytes l.movie lines l.rest;
  number : l.number ≡ length lines + 1;
  room : l.number + length l.rest ≤ length l.bytes + 1;
}

abbrev pub decreases-loop-rest : goal.decreases-loop-rest
decreases-loop-rest g l = length l.rest
