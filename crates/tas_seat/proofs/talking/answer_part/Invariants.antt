use Rattle.std.proofs.Common.{◌≡◌, ℕ, ◌++◌, List, length}
use Rattle.byte_text.specs.Splitting.{NoByte}
use Rattle.tas_language.specs.Held.{HoldsLine}
use Rattle.tas_seat.specs.Conversations.{talking}
use Rattle.tas_seat.specs.Talk.{Exchange, lines_of}
use Rattle.tas_seat.specs.Inside.Talking.{HasAnswered}
use Rattle.tas_seat.proofs.talking.answer_part.Given as goal

abbrev pub invariant-loop-front : goal.invariant-loop-front
invariant-loop-front g l = (said : List ℕ) → HoldsLine said l.fn.line.bytes.items l.fn.line.long → NoByte 10 said
    → (exchanges : List (Exchange g.row.A.Denot)) × (part : List ℕ) × record {
      text : said ++ l.part ≡ lines_of exchanges ++ (part ++ l.rest);
      none : NoByte 10 part;
      holds : HoldsLine part l.line.bytes.items l.line.long;
      answered : HasAnswered (talking l.fn.seat l.fn.draft) (talking l.seat l.draft) exchanges l.fn.before l.written (g.W.Write.contents l.fn.output) (g.W.Write.contents l.output);
    }

abbrev pub decreases-loop-front : goal.decreases-loop-front
decreases-loop-front g l = length l.rest
