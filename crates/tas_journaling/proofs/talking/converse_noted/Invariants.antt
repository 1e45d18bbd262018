use Rattle.std.proofs.Common.{◌≡◌, ℕ, List}
use Rattle.byte_text.specs.Splitting.{NoByte}
use Rattle.tas_language.specs.Held.{HoldsLine}
use Rattle.tas_seat.specs.Conversations.{talking}
use Rattle.tas_journaling.specs.Inside.{IsUnderway}
use Rattle.tas_journaling.proofs.talking.converse_noted.Given as goal

abbrev pub invariant-loop : goal.invariant-loop
invariant-loop g l = record {
  first : g.H.Noting.first l.journal ≡ g.H.Noting.first l.fn.journal;
  way : (said : List ℕ) × record {
    none : NoByte 10 said;
    holds : HoldsLine said l.line.bytes.items l.line.long;
    way : IsUnderway g.H.Noting.facts l.fn.seat (record { input = g.R.Read.remaining l.fn.input; output = g.W.Write.contents l.fn.output; journal = l.fn.journal }) (talking l.seat l.draft) l.written
        (record { input = g.R.Read.remaining l.input; output = g.W.Write.contents l.output; journal = l.journal }) said;
  };
  next : (goal.iterator-loop g).can_next l.iterator' × (goal.iterator-loop g).is_finite l.iterator';
}
