-- A seat's conversation with its other end.
use Rattle.std.specs.Prelude.{◌≡◌, ℕ, List, [], Option, None, Result, Ok, Err, ◌⊎◌}
use Rattle.tas_movie.specs.declared.edit.Edit.{Edit}
use Rattle.tas_desk.specs.Seats.{SeatContent}
use Rattle.tas_engines.specs.declared.fault.ToolFault.{ToolFault}
use Rattle.tas_engines.specs.declared.fault.ToolFault.TheVariants.{Read, Run, Seat}
use Rattle.tas_engines.specs.declared.fault.RunFault.TheVariants.{Write as RunWrite, NoEntry as RunNoEntry, Memory as RunMemory}
use Rattle.tas_engines.specs.declared.fault.SeatFault.{SeatFault}
use Rattle.tas_engines.specs.declared.fault.SeatFault.TheVariants.{NotOpened, Read as ReadFailed, Write, Memory, NoEntry, Foreign}
use Rattle.tas_seat.specs.Talk.{IsTalk, all_edits}

-- what is known of doors of a type: the bytes that the input has and those that the output holds, where they are known, of a door that is
-- opened next; which bytes can be left of the one and be held by the other once the door is closed; and that it couldn't be opened
pub record DoorFacts (D : Type 0) : Type 1 where
  pub given : D → Option (List ℕ)
  pub held : D → Option (List ℕ)
  pub left : D → Option (List ℕ) → Option (List ℕ) → Type 0
  pub refused : D → Type 0

-- nothing is known
abbrev pub unknown_facts : {D : Type 0} → DoorFacts D
unknown_facts = record { given = λ door. None; held = λ door. None; left = λ door input output. Unit {0}; refused = λ door. Unit {0} }

-- a door of which the bytes of both ends may be known before it is opened
pub record DoorEnds : Type 0 where
  pub given : Option (List ℕ)
  pub held : Option (List ℕ)

-- afterwards nothing is known of it
abbrev pub end_facts : DoorFacts DoorEnds
end_facts = record { given = λ ends. ends.given; held = λ ends. ends.held; left = λ ends input output. Unit {0}; refused = λ ends. Unit {0} }

-- how a seat's conversation ended, as the desk reports it
abbrev pub seat_end : Result (Unit {0}) ToolFault → Result (Unit {0}) SeatFault
seat_end (Ok u) = Ok u
seat_end (Err (Read fault)) = Err ReadFailed
seat_end (Err (Run (RunWrite written))) = Err (Write written)
seat_end (Err (Run RunNoEntry)) = Err NoEntry
seat_end (Err (Run RunMemory)) = Err Memory
seat_end (Err (Run _)) = Err Foreign
seat_end (Err (Seat seat fault)) = Err fault

-- what came of a seat's door, which it was and is now, and the edits that were made: it couldn't be opened, and the seat is as it was; or a
-- conversation was held, from the bytes of its ends when it was opened to those when it was closed
abbrev pub IsHeld : {A D : Type 0} → DoorFacts D → (door door' : D) → SeatContent A → SeatContent A → List (Edit A) → Result (Unit {0}) SeatFault → Type 0
IsHeld facts door door' start last edits end =
    ((end ≡ Err NotOpened) × facts.refused door' × (last ≡ start) × (edits ≡ []))
    ⊎ ((input' output' : Option (List ℕ)) × (ended : Result (Unit {0}) ToolFault) × (talk : IsTalk start last (facts.given door) input' (facts.held door) output' ended)
    × (edits ≡ all_edits talk) × (end ≡ seat_end ended) × facts.left door' input' output')

-- the same with some edits
abbrev pub WasHeld : {A D : Type 0} → DoorFacts D → (door door' : D) → SeatContent A → SeatContent A → Result (Unit {0}) SeatFault → Type 0
WasHeld {A} facts door door' start last end = (edits : List (Edit A)) × IsHeld facts door door' start last edits end
