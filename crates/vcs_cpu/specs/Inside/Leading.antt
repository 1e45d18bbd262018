-- Where an instruction of a run leads. Only private functions cite this file.
use Rattle.std.specs.Prelude.{◌≡◌, ◌<◌, ℕ, zero, suc, Bool, true, false, Option, Some, None, Result, Ok, Err, if◌then◌else◌}
use Rattle.vcs_cpu.specs.declared.regs.Regs.{Regs}
use Rattle.vcs_cpu.specs.declared.halt.Halt.{Halt}
use Rattle.vcs_cpu.specs.Device.{Device}
use Rattle.vcs_cpu.specs.Operands.{IsCode}
use Rattle.vcs_cpu.specs.Steps.{Step, step_of}
use Rattle.vcs_cpu.specs.Runs.{RunEnd, Settling, SettlesBy, run_within}

-- what the call for an instruction of a run is given: its opcode and its code, on a bus where the run may go on, which no halt has ended
pub record IsNext {Bus Content : Type 0} (d : Device Content) (content_of : Bus → Content) (Ready : Bus → Type 0) (opcode code : ℕ) (regs : Regs) (bus : Bus) (halt : Option Halt) : Type 0 where
  pub is_opcode : opcode ≡ d.byte_at (content_of bus) regs.pc
  pub is_code : IsCode code regs.pc (d.byte_at (content_of bus))
  pub ready : Ready bus
  pub going : halt ≡ None

module _ {Content : Type 0} (d : Device Content) (s : Settling Content) where
  -- one instruction more than those after it, where it doesn't end the run
  abbrev pub one_more : Result (Step Content) Halt → (Regs → Content → ℕ) → ℕ
  one_more (Err halt) after = zero
  one_more (Ok step) after = if s.is_over (s.after step.content) then zero else suc (after step.regs (s.after step.content))

  -- how many instructions a run takes before the one that ends it, or before it stops, where that comes within n
  unfoldable pub length_within : ℕ → Regs → Content → ℕ
  length_within zero regs content = zero
  length_within (suc n) regs content = if s.stops regs content then zero else one_more (step_of d regs content) (length_within n)

  -- a run that ends within n instructions from the first place ends as well from the second, and sooner
  unfoldable pub Leads : ℕ → Regs → Content → Regs → Content → Type 0
  Leads most regs content regs' content' = (e : RunEnd Content) → run_within d s most regs content ≡ Some e →
      (run_within d s most regs' content' ≡ Some e) × (length_within most regs' content' < length_within most regs content)

-- where an instruction and what the bus does after it led, however the bus settles: a run that ends or stops ends here, or goes on from here
pub record IsLedTo {Bus Content Held : Type 0} (d : Device Content) (content_of : Bus → Content) (Settles : Bus → Bus → Bool → Type 0) (is_watched : Bus → ℕ → Bool) (Ready : Bus → Type 0) (held : Bus → Held)
    (regs : Regs) (bus : Bus) (over : Bool) (regs' : Regs) (bus' : Bus) (halt : Option Halt) : Type 0 where
  pub ends : (s : Settling Content) (most : ℕ) (e : RunEnd Content) → over ≡ true → SettlesBy d content_of Settles is_watched s → run_within d s most regs (content_of bus) ≡ Some e
      → e ≡ record { regs = regs'; content = content_of bus'; halt = halt }
  pub goes_on : (s : Settling Content) (most : ℕ) → over ≡ false → SettlesBy d content_of Settles is_watched s → Leads d s most regs (content_of bus) regs' (content_of bus')
  pub going : over ≡ false → halt ≡ None
  pub ready : over ≡ false → Ready bus'
  pub fixed : held bus' ≡ held bus
