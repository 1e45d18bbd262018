-- The steps as src/tracing.rt takes them: where a frame is over, the next one starts. The text of a trace knows nothing of it:
-- only private functions cite this file.
use Rattle.std.specs.Prelude.{false, Result, Ok, Err, if◌then◌else◌}
use Rattle.vcs_cpu.specs.Steps.{Step}
use Rattle.vcs_cpu.specs.declared.regs.Regs.{Regs}
use Rattle.vcs_cpu.specs.declared.halt.Halt.{Halt}
use Rattle.vcs_tia.specs.declared.chip.Tia.{Tia}
use Rattle.vcs_tia.specs.Tia.{frame_started, frame_ended}
use Rattle.vcs_machine.specs.Bus.{Observed, nothing_seen}
use Rattle.vcs_machine.specs.Step.{console_step}
use Rattle.vcs_machine.specs.Frame.{is_frame_over}

-- where a frame is over, the next one starts with nothing pressed
abbrev pub into_next_frame : Tia → Tia
into_next_frame t = if is_frame_over t then frame_started false false (frame_ended t) else t

-- the same on the board
abbrev pub board_into_next_frame : Observed (Unit {0}) → Observed (Unit {0})
board_into_next_frame o = record o { board = record o.board { tia = into_next_frame o.board.tia } }

-- after a step; a halt stays one
abbrev pub step_into_next_frame : Result (Step (Observed (Unit {0}))) Halt → Result (Step (Observed (Unit {0}))) Halt
step_into_next_frame (Ok step) = Ok (record step { content = board_into_next_frame step.content })
step_into_next_frame (Err halt) = Err halt

-- one step of a trace, which goes on from frame to frame
unfoldable pub traced_step : Regs → Observed (Unit {0}) → Result (Step (Observed (Unit {0}))) Halt
traced_step regs o = step_into_next_frame (console_step nothing_seen regs o)
