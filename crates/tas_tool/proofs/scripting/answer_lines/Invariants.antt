use Rattle.std.proofs.Common.{◌≡◌, ◌≤◌, ◌+◌, List, length}
use Rattle.tas_movie.specs.declared.edit.Edit.{Edit}
use Rattle.tas_seat.specs.Turns.{standing_of}
use Rattle.tas_seat.proofs.HistoryLemmas.{Leaves}
use Rattle.tas_tool.specs.Scripts.{Turn, Reads, standing_after_all, replies_to_all}
use Rattle.tas_tool.specs.Inside.Alone.{SeesOwn}
use Rattle.tas_tool.proofs.scripting.answer_lines.Given as goal

abbrev pub invariant-loop-rest : goal.invariant-loop-rest
invariant-loop-rest g l = record {
  left : (edits : List (Edit g.row.A.Denot)) × Leaves l.fn.seat l.seat edits;
  room : l.number + length l.rest ≤ length l.bytes + 1;
  answered : SeesOwn l.seat
      → (turns : List Turn) × record {
        reads : Reads l.bytes turns l.rest;
        stands : standing_after_all (standing_of l.fn.seat.front) turns ≡ standing_of l.seat.front;
        number : l.number ≡ length turns + 1;
        replies : l.text.items ≡ replies_to_all (standing_of l.fn.seat.front) turns;
      };
}

abbrev pub decreases-loop-rest : goal.decreases-loop-rest
decreases-loop-rest g l = length l.rest
