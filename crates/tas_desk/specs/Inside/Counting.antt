-- A seat that is counted in under the lock.
use Rattle.std.specs.Prelude.{◌≡◌, ℕ, ◌+◌, List, Result, MatchResult}
use Rattle.tas_published.specs.declared.entry.Entry.{Entry}
use Rattle.tas_desk.specs.Seats.{SeatContent, seat_of}

-- the seat has seen the journal, and has made this many edits more where the answer is no error
abbrev pub IsCounted : {A T E : Type 0} → SeatContent A → SeatContent A → List (Entry A) → ℕ → Result T E → Type 0
IsCounted before now journal count answer = MatchResult answer
    (λ _. now ≡ seat_of before.number (before.made + count) journal before.zone)
    (λ _. now ≡ seat_of before.number before.made journal before.zone)
