-- A frame's run that stops before the first step that doesn't ignore the input. Only private functions cite this file.
use Rattle.std.specs.Prelude.{◌≡◌, Bool, true, false, not, List, Option, Some}
use Rattle.std.specs.List.{list_any}
use Rattle.vcs_cpu.specs.Reads.{addresses_read}
use Rattle.vcs_cpu.specs.Runs.{RunEnd, Settling}
use Rattle.vcs_tia.specs.declared.chip.Tia.{Tia}
use Rattle.vcs_tia.specs.Tia.{latches_presses}
use Rattle.vcs_machine.specs.Bus.{Observed, board_byte_at}
use Rattle.vcs_machine.specs.Frame.{FrameEnd, EndsAt, console_settling}
use Rattle.vcs_machine.specs.Lag.{shows_input}

module _ {Seen : Type 0} (observe : List Tia → Seen → Seen) where
  -- the console's settling, for a run that stops there
  abbrev pub watching : Settling (Observed Seen)
  watching = record (console_settling observe) { stops = λ regs o. list_any (shows_input o.board) (addresses_read regs (board_byte_at o.board)) }

  -- what the end of such a run says of a frame: of its end and of whether all its steps ignore the input, where it is the frame's end or not
  pub record Says (ends : Option (FrameEnd Seen)) (ignored ended : Bool) (e : RunEnd (Observed Seen)) : Type 0 where
    pub over : ended ≡ true → (ends ≡ Some (record { regs = e.regs; observed = e.content; halt = e.halt })) × (ignored ≡ not (latches_presses e.content.board.tia))
    pub stopped : ended ≡ false → (ignored ≡ false) × ((f : FrameEnd Seen) → ends ≡ Some f → EndsAt observe e.regs e.content f)
