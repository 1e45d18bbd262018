-- Where a run is after each instruction of its loop.
use Rattle.std.proofs.Common.{◌≡◌, ℕ, ◌<◌, ◌∙◌, ap, sym, Bool, true, false, Option, Some, None}
use Rattle.vcs_cpu.specs.declared.regs.Regs.{Regs}
use Rattle.vcs_cpu.specs.declared.halt.Halt.{Halt}
use Rattle.vcs_cpu.specs.Device.{Device}
use Rattle.vcs_cpu.specs.Runs.{RunEnd, Settling, SettlesBy, run_within}
use Rattle.vcs_cpu.specs.Inside.Leading.{length_within, Leads, IsLedTo}

-- a run that has come here: it ends as it does from its start, and goes on
pub record HasCome {Bus Content Held : Type 0} (d : Device Content) (content_of : Bus → Content) (Ready : Bus → Type 0) (held : Bus → Held)
    (s : Settling Content) (most : ℕ) (first : Regs) (start : Bus) (regs : Regs) (bus : Bus) (halt : Option Halt) : Type 0 where
  pub come : run_within d s most regs (content_of bus) ≡ run_within d s most first (content_of start)
  pub going : halt ≡ None
  pub ready : Ready bus
  pub fixed : held bus ≡ held start

module _ {Bus Content Held : Type 0} {d : Device Content} {content_of : Bus → Content} {Settles : Bus → Bus → Bool → Type 0} {is_watched : Bus → ℕ → Bool} {Ready : Bus → Type 0} {held : Bus → Held}
    {s : Settling Content} {most : ℕ} {first : Regs} {start : Bus} {r q : Regs} {bus after : Bus} {over : Bool} {halt halt' : Option Halt}
    (settles : SettlesBy d content_of Settles is_watched s) (ends : (e : RunEnd Content) × (run_within d s most first (content_of start) ≡ Some e))
    (here : HasCome d content_of Ready held s most first start r bus halt) (led : IsLedTo d content_of Settles is_watched Ready held r bus over q after halt') where
  -- the run goes on from where an instruction led
  pub comes_on : over ≡ false → HasCome d content_of Ready held s most first start q after halt'
  unfolding Leads
  comes_on on =
      let there = led.goes_on s most on settles ends.0 (here.come ∙ ends.1) in
      record { come = there.0 ∙ sym ends.1; going = led.going on; ready = led.ready on; fixed = led.fixed ∙ here.fixed }

  -- and is shorter from there
  pub comes_nearer : over ≡ false → length_within d s most q (content_of after) < length_within d s most r (content_of bus)
  unfolding Leads
  comes_nearer on = (led.goes_on s most on settles ends.0 (here.come ∙ ends.1)).1

  -- or it has ended there
  pub comes_to_end : over ≡ true → record {
    ended : run_within d s most first (content_of start) ≡ Some (record { regs = q; content = content_of after; halt = halt' });
    fixed : held after ≡ held start;
  }
  comes_to_end is = record { ended = ends.1 ∙ ap Some (led.ends s most ends.0 is settles (here.come ∙ ends.1)); fixed = led.fixed ∙ here.fixed }
