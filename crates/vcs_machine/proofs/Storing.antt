-- A store to WSYNC whose wait passes at once.
use Rattle.std.proofs.Common.{◌≡◌, ℕ, ◌+◌, ◌-◌, ◌*◌, ◌/◌, ◌%◌, ◌^◌, ◌<◌, ◌≤◌, ◌∙◌, nat_le, ap, sym, subst, refl, Bool, true, true≢false, List, [], ◌++◌, arith}
use Rattle.vcs_cpu.specs.Runs.{SettledFrom}
use Rattle.vcs_tia.specs.declared.chip.Tia.{Tia}
use Rattle.vcs_tia.specs.declared.register.Register.{Register}
use Rattle.vcs_tia.specs.declared.register.Register.TheVariants.{Wsync}
use Rattle.vcs_tia.specs.Register.{register_at, register_with}
use Rattle.vcs_tia.specs.Tia.{clocks_passed, written, written_at}
use Rattle.vcs_tia.specs.Trace.{trace}
use Rattle.vcs_tia.specs.Later.{drawing_of}
use Rattle.vcs_tia.proofs.Unseen.{unseen-wsync}
use Rattle.vcs_machine.specs.Bus.{Observed, bus_device, after_time}
use Rattle.vcs_machine.specs.Frame.{is_frame_over}
use Rattle.vcs_machine.specs.Inside.Chips.{after_tia_write}
use Rattle.vcs_machine.specs.Inside.Times.{first_time, end_time}
use Rattle.vcs_machine.specs.Inside.Console.{content_of, chips_of, ticks_of, clocks_of, settles_of}
use Rattle.vcs_machine.specs.declared.bus.ConsoleBus.{ConsoleBus}
use Rattle.vcs_machine.specs.declared.observer.Observer.{Ghosts}
use Rattle.vcs_machine.proofs.Lagging.{lagging_of, lagging-unseen, lagging-same, after_time-add, after_wait-owed, over-time}
use Rattle.vcs_machine.proofs.BusTime.{past, first, owed-time}

-- the register at address 2
wsync-at : register_at 2 ≡ Wsync
unfolding register_with
wsync-at = refl

module _ {O : Type 0} {observer : Ghosts O} (nil : (s : observer.Seen) → observer.observe [] s ≡ s)
    (append : (xs ys : List Tia) (s : observer.Seen) → observer.observe (xs ++ ys) s ≡ observer.observe ys (observer.observe xs s))
    (alike : (n : ℕ) (t u : Tia) (s : observer.Seen) → drawing_of t ≡ drawing_of u → observer.observe (trace n t) s ≡ observer.observe (trace n u) s)
    (b : ConsoleBus O observer) (cycles value : ℕ) (none : b.offset ≡ 0) (low : b.count < end_time) (most : cycles ≤ 7) where
  -- the TIA once it has been asked for a wait
  abbrev asked : Tia
  asked = record b.tia.now { sync = record b.tia.now.sync { wait_owed = true } }

  asked-written : asked ≡ written_at 2 value b.tia.now
  asked-written = ap (λ (r : Register). written r value b.tia.now.beam.clock b.tia.now) (sym wsync-at)

  -- the bus once the byte is written: it is to settle
  middle : ConsoleBus O observer
  middle = record b {
    count = b.count + cycles + 2 ^ 30;
    offset = 2 ^ 30;
    tia = record b.tia { now = asked };
    riot_past = omega (arith, b.riot_past, none);
    tia_past = omega (arith, b.tia_past, none);
    beam = b.beam;
    clock = b.clock;
    few = omega arith;
    low = omega (arith, low, most);
    still = λ h. absurd (omega (arith, h, first b, b.tia_past));
  }

  middle-content : content_of middle ≡ after_tia_write 2 value (after_time observer.observe cycles (3 * cycles) (content_of b))
  unfolding middle
  middle-content =
      let t = b.tia.now in
      let seen = observer.seen b.observer.now in
      let unseen = unseen-wsync true 2 value t wsync-at in
      lagging-unseen observer.observe nil append b.rom.now b.pins b.riot.now t asked seen (ticks_of middle) (clocks_of middle) 2 value asked-written (unseen.later (clocks_of middle))
      (alike (clocks_of middle) (written_at 2 value t) t seen (unseen.drawing refl))
      ∙ ap (λ (o : Observed observer.Seen). after_tia_write 2 value o)
      (after_time-add observer.observe nil append (ticks_of b) cycles (ticks_of middle) (clocks_of b) (3 * cycles) (clocks_of middle) (chips_of b)
      (omega (arith, b.riot_past, none)) (omega (arith, b.tia_past, none)))

  -- at the next line's start it has settled
  pub stored_at_once : (after : ConsoleBus O observer) (then : ℕ) (over : Bool) → b.count + cycles ≤ then → then < b.count + cycles + 76 → (then - first_time) % 76 ≡ 0 →
      content_of after ≡ lagging_of observer.observe b.rom.now b.pins b.riot.now b.tia.now (observer.seen b.observer.now) (then - b.offset - b.riot_at) (3 * (then - b.offset - b.tia_at)) →
      over ≡ nat_le end_time then →
      SettledFrom (content_of {O = O} {observer = observer}) settles_of (after_tia_write 2 value (after_time observer.observe cycles (3 * cycles) (content_of b))) after over
  unfolding middle
  stored_at_once after then over next near start is end =
      let t = b.tia.now in
      let seen = observer.seen b.observer.now in
      let now = b.count + cycles in
      let owed = 3 * (then - now) in
      let still = b.still low in
      let clocks = 3 * (then - b.offset - b.tia_at) in
      let time : clocks_passed asked + clocks_of middle + 3 * first_time ≡ 3 * now = omega (arith, past middle) in
      record {
        bus = middle;
        is = middle-content;
        settles = (
          is
              ∙ lagging-same observer.observe nil append b.rom.now b.pins b.riot.now t seen _ _ (ticks_of middle + owed / 3) (clocks_of middle + owed)
              (omega (arith, b.riot_past, none, next)) (omega (arith, b.tia_past, none, next))
              ∙ after_wait-owed observer.observe nil append alike b.rom.now b.pins b.riot.now asked t seen (ticks_of middle) (clocks_of middle) owed
              (ap (λ (w : Bool). let u : Tia = record t { sync = record t.sync { wait_owed = w } } in u) still.waits)
              (owed-time asked (clocks_of middle) now then b.clock time next near true refl (λ no. absurd (true≢false no)) (λ yes. start)),
          end ∙ over-time clocks then t b.clock still.rose (omega (arith, b.beam, b.tia_past, none, next)) ∙ ap (λ (o : Observed observer.Seen). is_frame_over o.board.tia) (sym is),
        );
      }

-- the same of the device's write at that address
pub stored_at : {O : Type 0} {observer : Ghosts O} (b after : ConsoleBus O observer) (cycles address value : ℕ) (over : Bool) → address ≡ 2 →
    SettledFrom (content_of {O = O} {observer = observer}) settles_of (after_tia_write 2 value (after_time observer.observe cycles (3 * cycles) (content_of b))) after over →
    SettledFrom (content_of {O = O} {observer = observer}) settles_of ((bus_device observer.observe).after_poke ((bus_device observer.observe).after_advance (content_of b) cycles) address value) after over
stored_at {O} {observer} b after cycles address value over is settled =
    subst (λ a. SettledFrom (content_of {O = O} {observer = observer}) settles_of ((bus_device observer.observe).after_poke ((bus_device observer.observe).after_advance (content_of b) cycles) a value) after over) (sym is) settled
