use Rattle.std.proofs.Common.{◌+◌, ◌*◌, ◌≤◌, length}
use Rattle.std.specs.List.{flat_map}
use Rattle.byte_text.specs.Sending.{IsSending}
use Rattle.tas_movie.specs.Content.{most_inputs}
use Rattle.tas_movie.specs.Runs.{runs_of}
use Rattle.tas_movie.specs.Text.{run_line, text2}
use Rattle.tas_movie.proofs.printing.write_text.Given as goal

-- the text is on its way, and the lines of the runs that are left are the rest of it
abbrev pub invariant-loop-rest : goal.invariant-loop-rest
invariant-loop-rest g l = record {
  sending : IsSending (g.W.Write.contents l.fn.to) (g.W.Write.contents l.to) (text2 l.movie) l.out (flat_map run_line (runs_of l.rest));
  fits : l.out.written + length l.out.waiting + 26 * length l.rest ≤ 81 + 26 * most_inputs;
  bound : length l.rest ≤ most_inputs;
}

abbrev pub decreases-loop-rest : goal.decreases-loop-rest
decreases-loop-rest g l = length l.rest
