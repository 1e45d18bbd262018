-- What a bus holds and shows as a whole, and how it settles. Only the private functions of the bus cite this file.
use Rattle.std.specs.Prelude.{ℕ, ◌-◌, ◌*◌, List, Bool}
use Rattle.vcs_cpu.specs.Runs.{IsSettled}
use Rattle.vcs_riot.specs.declared.chip.Pins.{Pins}
use Rattle.vcs_machine.specs.Bus.{Observed, observed_of, after_time}
use Rattle.vcs_machine.specs.Frame.{console_settling}
use Rattle.vcs_machine.specs.declared.observer.Observer.{Ghosts}
use Rattle.vcs_machine.specs.declared.bus.ConsoleBus.{ConsoleBus}

module _ {O : Type 0} {observer : Ghosts O} where
  -- the processor's time
  abbrev pub now_of : ConsoleBus O observer → ℕ
  now_of b = b.count - b.offset

  -- CPU cycles that have yet to pass on the RIOT
  abbrev pub ticks_of : ConsoleBus O observer → ℕ
  ticks_of b = now_of b - b.riot_at

  -- colour clocks that have yet to pass on the TIA
  abbrev pub clocks_of : ConsoleBus O observer → ℕ
  clocks_of b = 3 * (now_of b - b.tia_at)

  -- what the chips hold and the observer has seen so far, without the ticks and clocks that are owed
  abbrev pub chips_of : ConsoleBus O observer → Observed observer.Seen
  chips_of b = observed_of b.rom.now b.pins b.riot.now b.tia.now (observer.seen b.observer.now)

  -- what the bus shows: the same after the ticks and clocks that are owed
  abbrev pub content_of : ConsoleBus O observer → Observed observer.Seen
  content_of b = after_time observer.observe (ticks_of b) (clocks_of b) (chips_of b)

  -- what no call on the bus changes: bytes and pins, and which chips and observer it holds
  abbrev pub fixed_of : ConsoleBus O observer → List ℕ × (Pins × (ℕ × (ℕ × ℕ)))
  fixed_of b = (b.rom.now, (b.pins, (b.riot.ghost_name, (b.tia.ghost_name, b.observer.ghost_name))))

  -- how buses settle: the wait passes, and then the frame may be over
  abbrev pub settles_of : ConsoleBus O observer → ConsoleBus O observer → Bool → Type 0
  settles_of before after over = IsSettled (console_settling observer.observe) (content_of before) (content_of after) over
