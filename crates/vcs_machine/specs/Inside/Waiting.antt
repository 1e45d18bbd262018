-- Polls that wait for the timer.
use Rattle.std.specs.Prelude.{◌≡◌, Bool, true, false}
use Rattle.vcs_cpu.specs.declared.bus.Poll.{Poll}
use Rattle.vcs_riot.specs.declared.timer.Timer.{Timer}
use Rattle.vcs_riot.specs.Address.{is_high}
use Rattle.vcs_riot.specs.Timer.{IsAboveZero}
use Rattle.vcs_machine.specs.Address.{is_timer}

-- they read INTIM until it is 0 (BNE), or INSTAT while it is 0 (BEQ)
abbrev pub IsWait : Poll → Type 0
IsWait poll = (is_timer poll.address ≡ true) × (is_high 0 poll.address ≡ poll.while_zero)

-- a timer of which a poll reads what takes its branch, and which the read leaves as it is: its flag is clear (`true`, for INSTAT),
-- or its count is above 0 and hasn't gone below (`false`, for INTIM)
abbrev pub MayWait : Bool → Timer → Type 0
MayWait true t = t.flag ≡ false
MayWait false t = IsAboveZero t
