use Rattle.std.proofs.Common.{ℕ, ◌≡◌, ◌++◌, List, Option, length}
use Rattle.byte_text.specs.Splitting.{NoByte}
use Rattle.tas_desk.specs.Seats.{SeatContent}
use Rattle.tas_language.specs.Held.{HoldsLine}
use Rattle.tas_seat.specs.Conversations.{talking}
use Rattle.tas_journaling.specs.Talks.{WaysWith}
use Rattle.tas_journaling.specs.Inside.{IsUnderway}
use Rattle.tas_journaling.proofs.talking.answer_part.Given as goal

abbrev pub invariant-loop-front : goal.invariant-loop-front
invariant-loop-front g l = record {
  begun : g.H.Noting.first l.journal ≡ g.H.Noting.first l.fn.journal;
  way : (start : SeatContent g.row.A.Denot) → (first : WaysWith _) → (input : Option (List ℕ)) → (said : List ℕ) → HoldsLine said l.fn.line.bytes.items l.fn.line.long → NoByte 10 said
      → IsUnderway g.H.Noting.facts start first (talking l.fn.seat l.fn.draft) l.fn.before (record { input = input; output = g.W.Write.contents l.fn.output; journal = l.fn.journal }) (said ++ l.part)
      → (held : List ℕ) × record {
        none : NoByte 10 held;
        holds : HoldsLine held l.line.bytes.items l.line.long;
        way : IsUnderway g.H.Noting.facts start first (talking l.seat l.draft) l.written (record { input = input; output = g.W.Write.contents l.output; journal = l.journal }) (held ++ l.rest);
      };
}

abbrev pub decreases-loop-front : goal.decreases-loop-front
decreases-loop-front g l = length l.rest
