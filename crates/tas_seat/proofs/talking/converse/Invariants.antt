use Rattle.std.proofs.Common.{ℕ, List, None}
use Rattle.tas_seat.specs.Conversations.{talking}
use Rattle.tas_seat.specs.Talk.{Exchange}
use Rattle.tas_seat.proofs.TalkLemmas.{IsUnderway}
use Rattle.tas_seat.proofs.talking.converse.Given as goal

abbrev pub invariant-loop : goal.invariant-loop
invariant-loop g l = record {
  way : (exchanges : List (Exchange g.row.A.Denot)) × (part : List ℕ) × IsUnderway (talking l.fn.seat None) (talking l.seat l.draft) l.written l.line.bytes.items l.line.long (g.R.Read.remaining l.fn.input) (g.R.Read.remaining l.input)
      (g.W.Write.contents l.fn.output) (g.W.Write.contents l.output) exchanges part;
  next : (goal.iterator-loop g).can_next l.iterator' × (goal.iterator-loop g).is_finite l.iterator';
}
