use Rattle.std.proofs.Common.{◌≡◌, length}
use Rattle.tas_tool.proofs.noted_desk_runs.hold_begun.Given as goal

abbrev pub ghosts-hold_noted : goal.ghosts-hold_noted
ghosts-hold_noted g a = record { table = a.tally; head = a.journal.bytes; first = a.journal.first; own = λ number made. (number ≡ length a.seats.items) × (made ≡ 0) }
