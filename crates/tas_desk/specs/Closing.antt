-- What the seats of a desk made, at its end.
use Rattle.std.specs.Prelude.{ℕ, ◌+◌, List, [], ◌∷◌}
use Rattle.tas_desk.specs.Seats.{SeatContent}

-- how many edits the seats made
abbrev pub made_by : {A : Type 0} → List (SeatContent A) → ℕ
made_by [] = 0
made_by (seat ∷ seats) = seat.made + made_by seats
