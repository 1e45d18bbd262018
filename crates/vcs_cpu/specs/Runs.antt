-- Runs: instructions one after the other, on a bus that does something by itself after each of them and says then whether the run is over.
-- A run stops before an instruction that reads at a watched address.
use Rattle.std.specs.Prelude.{◌≡◌, ◌≤◌, ℕ, zero, suc, Bool, List, Option, Some, None, Result, Ok, Err, if◌then◌else◌}
use Rattle.std.specs.List.{list_any}
use Rattle.vcs_cpu.specs.declared.regs.Regs.{Regs}
use Rattle.vcs_cpu.specs.declared.halt.Halt.{Halt}
use Rattle.vcs_cpu.specs.Device.{Device, after_loads, after_writes}
use Rattle.vcs_cpu.specs.Reads.{addresses_read}
use Rattle.vcs_cpu.specs.Steps.{Step, step_of}

-- how a run ends: registers and content, and the halt if there was one
pub record RunEnd (Content : Type 0) : Type 0 where
  pub regs : Regs
  pub content : Content
  pub halt : Option Halt

-- whether a run stops before its next instruction, what a bus does by itself after one, and whether the run is over then
pub record Settling (Content : Type 0) : Type 0 where
  pub stops : Regs → Content → Bool
  pub after : Content → Content
  pub is_over : Content → Bool

module _ {Content : Type 0} (d : Device Content) (s : Settling Content) where
  -- the run is over, or goes on from here
  abbrev pub over_or_next : Regs → Content → (Regs → Content → Option (RunEnd Content)) → Option (RunEnd Content)
  over_or_next regs content next = if s.is_over content then Some (record { regs = regs; content = content; halt = None }) else next regs content

  -- a halt ends the run with all as it stood before; else the bus does what it does, and the run is over or goes on
  abbrev pub end_or_next : Result (Step Content) Halt → Regs → Content → (Regs → Content → Option (RunEnd Content)) → Option (RunEnd Content)
  end_or_next (Err halt) regs content next = Some (record { regs = regs; content = content; halt = Some halt })
  end_or_next (Ok step) regs content next = over_or_next step.regs (s.after step.content) next

  -- a run that stops ends with all as it stands; else it goes on
  abbrev pub stopped_or_next : Regs → Content → Option (RunEnd Content) → Option (RunEnd Content)
  stopped_or_next regs content next = if s.stops regs content then Some (record { regs = regs; content = content; halt = None }) else next

  -- the run's end, where it comes within n instructions
  unfoldable pub run_within : ℕ → Regs → Content → Option (RunEnd Content)
  run_within zero regs content = None
  run_within (suc n) regs content = stopped_or_next regs content (end_or_next (step_of d regs content) regs content (run_within n))

-- a bus that has settled: what its content is then, and whether the run is over
abbrev pub IsSettled : {Content : Type 0} → Settling Content → Content → Content → Bool → Type 0
IsSettled s before after over = (after ≡ s.after before) × (over ≡ s.is_over after)

-- some bus with this content settles to the one after, and the run is over or not
pub record SettledFrom {Bus Content : Type 0} (content_of : Bus → Content) (Settles : Bus → Bus → Bool → Type 0) (c : Content) (after : Bus) (over : Bool) : Type 0 where
  pub bus : Bus
  pub is : content_of bus ≡ c
  pub settles : Settles bus after over

-- buses settle as the settling says of their contents, and it stops a run just before an instruction that reads at a watched address
pub record SettlesBy {Bus Content : Type 0} (d : Device Content) (content : Bus → Content) (Settles : Bus → Bus → Bool → Type 0) (is_watched : Bus → ℕ → Bool) (s : Settling Content) : Type 0 where
  pub settles : (before after : Bus) (over : Bool) → Settles before after over → IsSettled s (content before) (content after) over
  pub stops : (bus : Bus) (regs : Regs) → s.stops regs (content bus) ≡ list_any (is_watched bus) (addresses_read regs (d.byte_at (content bus)))

-- a content that an instruction leaves which began on a bus where a run may go on
pub record IsAfterInstruction {Bus Content : Type 0} (d : Device Content) (content_of : Bus → Content) (Ready : Bus → Type 0) (content : Content) : Type 0 where
  pub before : Bus
  pub ready : Ready before
  pub cycles : ℕ
  pub least : 2 ≤ cycles
  pub most : cycles ≤ 7
  pub reads : List ℕ
  pub writes : List (ℕ × ℕ)
  pub is : content ≡ after_writes d (after_loads d (d.after_advance (content_of before) cycles) reads) writes
