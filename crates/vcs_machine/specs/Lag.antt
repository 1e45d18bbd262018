-- Lag frames: frames whose input nothing reads (own).
use Rattle.std.specs.Prelude.{◌≡◌, ℕ, zero, suc, Bool, true, false, not, ◌&&◌, if◌then◌else◌, List, Result, Ok, Err}
use Rattle.std.specs.List.{list_any}
use Rattle.vcs_cpu.specs.Reads.{addresses_read}
use Rattle.vcs_cpu.specs.Steps.{Step}
use Rattle.vcs_cpu.specs.declared.regs.Regs.{Regs}
use Rattle.vcs_cpu.specs.declared.halt.Halt.{Halt}
use Rattle.vcs_riot.specs.Chip as riot
use Rattle.vcs_tia.specs.declared.chip.Tia.{Tia}
use Rattle.vcs_tia.specs.Tia as tia
use Rattle.vcs_inputs.specs.declared.input.Input.{Input}
use Rattle.vcs_machine.specs.declared.address.Region.{Region}
use Rattle.vcs_machine.specs.declared.address.Region.TheVariants as region
use Rattle.vcs_machine.specs.Address.{selected}
use Rattle.vcs_machine.specs.Bus.{Board, Observed, board_byte_at, nothing_seen}
use Rattle.vcs_machine.specs.Step.{console_step}
use Rattle.vcs_machine.specs.Frame.{most_instructions, is_frame_over}
use Rattle.vcs_machine.specs.Machine.{Machine, frame_start, unless_halted, frame, frame_picture}

-- whether a read shows a pin of a port or a fire button: of the RIOT or of the TIA, the cartridge shows neither
abbrev pub shows_input_of : Region → Board → ℕ → Bool
shows_input_of region.Cartridge b addr = false
shows_input_of region.Ram b addr = riot.shows_pin addr b.riot
shows_input_of region.PortsAndTimer b addr = riot.shows_pin addr b.riot
shows_input_of region.Tia b addr = tia.shows_button addr

abbrev pub shows_input : Board → ℕ → Bool
shows_input b addr = shows_input_of (selected addr) b addr

-- no read of the next instruction shows a pin or a fire button
abbrev pub ignores_input : Regs → Board → Bool
ignores_input regs b = not (list_any (shows_input b) (addresses_read regs (board_byte_at b)))

-- where the frame ends, by a halt or after its last step, no press sets a latch, so that none is kept; else the steps go on
abbrev pub last_or_next : {Seen : Type 0} → Observed Seen → Result (Step (Observed Seen)) Halt → (Step (Observed Seen) → Bool) → Bool
last_or_next o (Err halt) next = not (tia.latches_presses o.board.tia)
last_or_next o (Ok step) next = if is_frame_over step.content.board.tia then not (tia.latches_presses step.content.board.tia) else next step

module _ {Seen : Type 0} (observe : List Tia → Seen → Seen) where
  -- the frame ends within n steps, and each of them ignores the input
  unfoldable pub is_ignored_within : ℕ → Regs → Observed Seen → Bool
  is_ignored_within zero regs o = false
  is_ignored_within (suc n) regs o = ignores_input regs o.board && last_or_next o (console_step observe regs o) (λ step. is_ignored_within n step.regs step.content)

-- a frame whose steps all ignore the input, and which keeps no press; a halted machine has no steps
unfoldable pub is_lag_frame : List ℕ → Machine → Input → Bool
is_lag_frame rom m input = unless_halted m.halt (is_ignored_within nothing_seen most_instructions m.regs (frame_start rom m input tt)) true

-- two inputs make the same of a frame: the next machine and the picture
pub record IsSameFrame (rom : List ℕ) (m : Machine) (input other : Input) : Type 0 where
  pub state : frame rom m input ≡ frame rom m other
  pub picture : frame_picture rom m input ≡ frame_picture rom m other
