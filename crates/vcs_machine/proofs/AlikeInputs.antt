-- Boards that are equal but for the input: for the pins, the pressed buttons, and the latches while presses are latched.
use Rattle.std.proofs.Common.{◌≡◌, ℕ, zero, suc, ◌*◌, ◌/◌, ◌%◌, ◌==◌, Bool, true, false, not, ◌&&◌, ◌||◌, if◌then◌else◌, List, slice_index, ◌∙◌, ap, sym, refl}
use Rattle.std.specs.List.{list_any}
use Rattle.std.proofs.lemmas.Bool.{false≢true}
use Rattle.vcs_cpu.specs.Reads.{addresses_read}
use Rattle.vcs_cpu.specs.Steps.{step_of}
use Rattle.vcs_cpu.specs.declared.regs.Regs.{Regs}
use Rattle.vcs_riot.specs.declared.chip.Riot.{Riot}
use Rattle.vcs_riot.specs.declared.timer.Timer.{Timer}
use Rattle.vcs_riot.specs.Address.{is_high}
use Rattle.vcs_riot.specs.Chip.{shows_pin, riot_after_ticks, riot_after_load, riot_after_write, timer_after_load}
use Rattle.vcs_riot.proofs.PinLemmas.{byte-pins}
use Rattle.vcs_tia.specs.declared.chip.Tia.{Tia}
use Rattle.vcs_tia.specs.declared.chip.Fire.{Fire}
use Rattle.vcs_tia.specs.declared.chip.Button.{Button}
use Rattle.vcs_tia.specs.declared.register.Register.{Register}
use Rattle.vcs_tia.specs.declared.register.Register.TheVariants.{Vsync, Vblank, Wsync, Nusiz0, Nusiz1, Colup0, Colup1, Colupf, Colubk, Ctrlpf, Refp0, Refp1, Pf0, Pf1, Pf2, Resp0, Resp1, Resm0, Resm1, Resbl, Grp0, Grp1, Enam0, Enam1, Enabl, Hmp0, Hmp1, Hmm0, Hmm1, Hmbl, Vdelp0, Vdelp1, Vdelbl, Resmp0, Resmp1, Hmove, Hmclr, Cxclr, Unused}
use Rattle.vcs_tia.specs.Units.{has_bit}
use Rattle.vcs_tia.specs.Register.{register_at}
use Rattle.vcs_tia.specs.Later.{drawing_of}
use Rattle.vcs_tia.specs.Tia.{new_button, written, written_at, after_clock, read_bytes, shows_button, clocks_owed, wait_cleared}
use Rattle.vcs_tia.specs.Trace.{after_clocks, trace}
use Rattle.vcs_tia.proofs.Later.{fire-after_clocks}
use Rattle.vcs_machine.specs.declared.address.Region.{Region}
use Rattle.vcs_machine.specs.declared.address.Region.TheVariants as region
use Rattle.vcs_machine.specs.Address.{selected}
use Rattle.vcs_machine.specs.Bus.{Board, Observed, byte_of, loaded, stored, board_byte_at, board_after_load, board_after_write, bus_device, after_time, after_wait}
use Rattle.vcs_machine.specs.Step.{console_step}
use Rattle.vcs_machine.specs.Lag.{shows_input_of, shows_input}
use Rattle.vcs_machine.proofs.AlikeSteps.{EndAlike, instruction-alike, with_wait-alike}
use Rattle.vcs_machine.proofs.Clocks.{load-changed}

-- ---- the TIA without its buttons

-- a button that isn't pressed, and whose latch is clear while presses are latched
abbrev unpressed : Bool → Button → Button
unpressed latching b = record { pressed = false; latched = not latching && b.latched }

abbrev fire_unpressed : Fire → Fire
fire_unpressed f = record { latching = f.latching; left = unpressed f.latching f.left; right = unpressed f.latching f.right }

abbrev with_fire : Fire → Tia → Tia
with_fire f t = record t { fire = f }

abbrev pub tia_unpressed : Tia → Tia
tia_unpressed t = with_fire (fire_unpressed t.fire) t

-- the TIA after a write of VBLANK, without its buttons
abbrev blanked : ℕ → Tia → Tia
blanked v t = record t { blank = has_bit v 1; fire = record { latching = has_bit v 6; left = new_button; right = new_button } }

cleared_or_forgotten : (latching latched : Bool) → (not latching && (latching && latched)) ≡ false
cleared_or_forgotten true latched = refl
cleared_or_forgotten false latched = refl

blanked-unpressed : (v h : ℕ) (t : Tia) → tia_unpressed (written Vblank v h t) ≡ blanked v t
blanked-unpressed v h t =
    let latching = has_bit v 6 in
    let left = cleared_or_forgotten latching (t.fire.left.latched || t.fire.left.pressed) in
    let right = cleared_or_forgotten latching (t.fire.right.latched || t.fire.right.pressed) in
    λ i. record t {
      blank = has_bit v 1;
      fire = record { latching = latching; left = record { pressed = false; latched = left i }; right = record { pressed = false; latched = right i } };
    }

written-alike : (r : Register) (v h : ℕ) (t u : Tia) → tia_unpressed t ≡ tia_unpressed u → tia_unpressed (written r v h t) ≡ tia_unpressed (written r v h u)
written-alike Vsync v h t u e = ap (written Vsync v h) e
written-alike Vblank v h t u e = blanked-unpressed v h t ∙ ap (blanked v) e ∙ sym (blanked-unpressed v h u)
written-alike Wsync v h t u e = ap (written Wsync v h) e
written-alike Nusiz0 v h t u e = ap (written Nusiz0 v h) e
written-alike Nusiz1 v h t u e = ap (written Nusiz1 v h) e
written-alike Colup0 v h t u e = ap (written Colup0 v h) e
written-alike Colup1 v h t u e = ap (written Colup1 v h) e
written-alike Colupf v h t u e = ap (written Colupf v h) e
written-alike Colubk v h t u e = ap (written Colubk v h) e
written-alike Ctrlpf v h t u e = ap (written Ctrlpf v h) e
written-alike Refp0 v h t u e = ap (written Refp0 v h) e
written-alike Refp1 v h t u e = ap (written Refp1 v h) e
written-alike Pf0 v h t u e = ap (written Pf0 v h) e
written-alike Pf1 v h t u e = ap (written Pf1 v h) e
written-alike Pf2 v h t u e = ap (written Pf2 v h) e
written-alike Resp0 v h t u e = ap (written Resp0 v h) e
written-alike Resp1 v h t u e = ap (written Resp1 v h) e
written-alike Resm0 v h t u e = ap (written Resm0 v h) e
written-alike Resm1 v h t u e = ap (written Resm1 v h) e
written-alike Resbl v h t u e = ap (written Resbl v h) e
written-alike Grp0 v h t u e = ap (written Grp0 v h) e
written-alike Grp1 v h t u e = ap (written Grp1 v h) e
written-alike Enam0 v h t u e = ap (written Enam0 v h) e
written-alike Enam1 v h t u e = ap (written Enam1 v h) e
written-alike Enabl v h t u e = ap (written Enabl v h) e
written-alike Hmp0 v h t u e = ap (written Hmp0 v h) e
written-alike Hmp1 v h t u e = ap (written Hmp1 v h) e
written-alike Hmm0 v h t u e = ap (written Hmm0 v h) e
written-alike Hmm1 v h t u e = ap (written Hmm1 v h) e
written-alike Hmbl v h t u e = ap (written Hmbl v h) e
written-alike Vdelp0 v h t u e = ap (written Vdelp0 v h) e
written-alike Vdelp1 v h t u e = ap (written Vdelp1 v h) e
written-alike Vdelbl v h t u e = ap (written Vdelbl v h) e
written-alike Resmp0 v h t u e = ap (written Resmp0 v h) e
written-alike Resmp1 v h t u e = ap (written Resmp1 v h) e
written-alike Hmove v h t u e = ap (written Hmove v h) e
written-alike Hmclr v h t u e = ap (written Hmclr v h) e
written-alike Cxclr v h t u e = ap (written Cxclr v h) e
written-alike Unused v h t u e = ap (written Unused v h) e

written_at-alike : (addr v : ℕ) (t u : Tia) → tia_unpressed t ≡ tia_unpressed u → tia_unpressed (written_at addr v t) ≡ tia_unpressed (written_at addr v u)
written_at-alike addr v t u e =
    written-alike (register_at addr) v t.beam.clock t u e
    ∙ ap (λ (h : ℕ). tia_unpressed (written (register_at addr) v h u)) (ap (λ (x : Tia). x.beam.clock) e)

clocks-with_fire : (n : ℕ) (f : Fire) (t : Tia) → after_clocks n (with_fire f t) ≡ with_fire f (after_clocks n t)
unfolding after_clocks after_clock
clocks-with_fire zero f t = refl
clocks-with_fire (suc n) f t = clocks-with_fire n f (after_clock t)

clocks-unpressed : (n : ℕ) (t : Tia) → tia_unpressed (after_clocks n t) ≡ after_clocks n (tia_unpressed t)
clocks-unpressed n t = ap (λ (f : Fire). with_fire (fire_unpressed f) (after_clocks n t)) (fire-after_clocks n t) ∙ sym (clocks-with_fire n (fire_unpressed t.fire) t)

-- ---- reads

read-with_fire : (k : ℕ) (f : Fire) (t : Tia) → (k == 12 || k == 13) ≡ false → slice_index (read_bytes t) k ≡ slice_index (read_bytes (with_fire f t)) k
read-with_fire zero f t h = refl
read-with_fire (suc zero) f t h = refl
read-with_fire (suc (suc zero)) f t h = refl
read-with_fire (suc (suc (suc zero))) f t h = refl
read-with_fire (suc (suc (suc (suc zero)))) f t h = refl
read-with_fire (suc (suc (suc (suc (suc zero))))) f t h = refl
read-with_fire (suc (suc (suc (suc (suc (suc zero)))))) f t h = refl
read-with_fire (suc (suc (suc (suc (suc (suc (suc zero))))))) f t h = refl
read-with_fire (suc (suc (suc (suc (suc (suc (suc (suc zero)))))))) f t h = refl
read-with_fire (suc (suc (suc (suc (suc (suc (suc (suc (suc zero))))))))) f t h = refl
read-with_fire (suc (suc (suc (suc (suc (suc (suc (suc (suc (suc zero)))))))))) f t h = refl
read-with_fire (suc (suc (suc (suc (suc (suc (suc (suc (suc (suc (suc zero))))))))))) f t h = refl
read-with_fire (suc (suc (suc (suc (suc (suc (suc (suc (suc (suc (suc (suc zero)))))))))))) f t h = absurd (false≢true (sym h))
read-with_fire (suc (suc (suc (suc (suc (suc (suc (suc (suc (suc (suc (suc (suc zero))))))))))))) f t h = absurd (false≢true (sym h))
read-with_fire (suc (suc (suc (suc (suc (suc (suc (suc (suc (suc (suc (suc (suc (suc zero)))))))))))))) f t h = refl
read-with_fire (suc (suc (suc (suc (suc (suc (suc (suc (suc (suc (suc (suc (suc (suc (suc zero))))))))))))))) f t h = refl
read-with_fire (suc (suc (suc (suc (suc (suc (suc (suc (suc (suc (suc (suc (suc (suc (suc (suc k)))))))))))))))) f t h = refl

abbrev pub board_unpressed : Board → Board
board_unpressed b = record b { pins = record { a = 0; b = 0 }; tia = tia_unpressed b.tia }

byte_of-unpressed : (s : Region) (b : Board) (addr : ℕ) → shows_input_of s b addr ≡ false → byte_of s b addr ≡ byte_of s (board_unpressed b) addr
byte_of-unpressed region.Cartridge b addr h = refl
byte_of-unpressed region.Ram b addr h = byte-pins addr b.pins (record { a = 0; b = 0 }) b.riot h
byte_of-unpressed region.PortsAndTimer b addr h = byte-pins addr b.pins (record { a = 0; b = 0 }) b.riot h
byte_of-unpressed region.Tia b addr h = read-with_fire (addr % 16) (fire_unpressed b.tia.fire) b.tia h

byte-unpressed : (b : Board) (addr : ℕ) → shows_input b addr ≡ false → board_byte_at b addr ≡ board_byte_at (board_unpressed b) addr
byte-unpressed b addr h = byte_of-unpressed (selected addr) b addr h

-- ---- what shows the input stays the same with loads

abbrev pins_shown : Riot → ℕ → Bool
pins_shown r addr = shows_pin addr r

pins-by_lines : (nine two : Bool) (r : Riot) (t : Timer) → pins_shown (if nine then (if two then record r { timer = t } else r) else r) ≡ pins_shown r
pins-by_lines true true r t = refl
pins-by_lines true false r t = refl
pins-by_lines false two r t = refl

-- what shows the input, by the pins that the RIOT shows
abbrev shown_with : (ℕ → Bool) → Region → ℕ → Bool
shown_with pins region.Cartridge addr = false
shown_with pins region.Ram addr = pins addr
shown_with pins region.PortsAndTimer addr = pins addr
shown_with pins region.Tia addr = shows_button addr

shows_input-with : (s : Region) (b : Board) (addr : ℕ) → shows_input_of s b addr ≡ shown_with (pins_shown b.riot) s addr
shows_input-with region.Cartridge b addr = refl
shows_input-with region.Ram b addr = refl
shows_input-with region.PortsAndTimer b addr = refl
shows_input-with region.Tia b addr = refl

pins-loaded : (b : Board) (addr : ℕ) → pins_shown (riot_after_load addr b.riot) ≡ pins_shown b.riot
pins-loaded b addr = pins-by_lines (is_high 9 addr) (is_high 2 addr) b.riot (timer_after_load addr b.riot.timer)

pins_of-loaded : (s : Region) (b : Board) (addr : ℕ) → pins_shown (loaded s b addr).riot ≡ pins_shown b.riot
pins_of-loaded region.Cartridge b addr = refl
pins_of-loaded region.Ram b addr = pins-loaded b addr
pins_of-loaded region.PortsAndTimer b addr = pins-loaded b addr
pins_of-loaded region.Tia b addr = refl

input_by_pins : (b c : Board) → pins_shown b.riot ≡ pins_shown c.riot → shows_input b ≡ shows_input c
input_by_pins b c e = λ i a.
    (shows_input-with (selected a) b a ∙ ap (λ (pins : ℕ → Bool). shown_with pins (selected a) a) e ∙ sym (shows_input-with (selected a) c a)) i

input_loaded : (b : Board) (addr : ℕ) → shows_input (board_after_load b addr) ≡ shows_input b
input_loaded b addr = input_by_pins (board_after_load b addr) b (pins_of-loaded (selected addr) b addr)

input-unpressed : (b : Board) (addr : ℕ) → shows_input (board_unpressed b) addr ≡ shows_input b addr
input-unpressed b addr = ap (λ (m : ℕ → Bool). m addr) (input_by_pins (board_unpressed b) b refl)

-- ---- the board

-- a board without the input
abbrev pub blind : {Seen : Type 0} → Observed Seen → Observed Seen
blind o = record o { board = board_unpressed o.board }

-- equal but for the input
abbrev pub AlikeButInput : {Seen : Type 0} → Observed Seen → Observed Seen → Type 0
AlikeButInput o p = blind o ≡ blind p

load-unpressed : (b : Board) (addr : ℕ) → board_unpressed (board_after_load b addr) ≡ board_after_load (board_unpressed b) addr
load-unpressed b addr = load-changed board_unpressed (λ c r. refl) (λ c. refl) b addr

stored-alike : (s : Region) (b c : Board) (addr v : ℕ) → board_unpressed b ≡ board_unpressed c → board_unpressed (stored s b addr v) ≡ board_unpressed (stored s c addr v)
stored-alike region.Cartridge b c addr v e = e
stored-alike region.Ram b c addr v e = λ i. record (e i) { riot = riot_after_write addr v (e i).riot }
stored-alike region.PortsAndTimer b c addr v e = λ i. record (e i) { riot = riot_after_write addr v (e i).riot }
stored-alike region.Tia b c addr v e = λ i. record (e i) { tia = written_at-alike addr v b.tia c.tia (ap (λ (x : Board). x.tia) e) i }

write-alike : (b c : Board) (addr v : ℕ) → board_unpressed b ≡ board_unpressed c → board_unpressed (board_after_write b addr v) ≡ board_unpressed (board_after_write c addr v)
write-alike b c addr v e = stored-alike (selected addr) b c addr v e

module _ {Seen : Type 0} (observe : List Tia → Seen → Seen) (looks : (n : ℕ) (t u : Tia) (s : Seen) → drawing_of t ≡ drawing_of u → observe (trace n t) s ≡ observe (trace n u) s) where
  reads-alike : (x y : Observed Seen) (addr : ℕ) → AlikeButInput x y → shows_input x.board addr ≡ false → board_byte_at x.board addr ≡ board_byte_at y.board addr
  reads-alike x y addr h none =
      let same = ap (λ (o : Observed Seen). shows_input o.board addr) h in
      byte-unpressed x.board addr none ∙ ap (λ (o : Observed Seen). board_byte_at o.board addr) h ∙ sym (byte-unpressed y.board addr (sym (input-unpressed y.board addr) ∙ sym same ∙ input-unpressed x.board addr ∙ none))

  loads-alike : (x y : Observed Seen) (addr : ℕ) → AlikeButInput x y → AlikeButInput ((bus_device observe).after_load x addr) ((bus_device observe).after_load y addr)
  loads-alike x y addr h =
      let load = (bus_device observe).after_load in
      ap (λ (b : Board). record x { board = b }) (load-unpressed x.board addr) ∙ ap (λ (o : Observed Seen). load o addr) h
      ∙ sym (ap (λ (b : Board). record y { board = b }) (load-unpressed y.board addr))

  pokes-alike : (x y : Observed Seen) (addr v : ℕ) → AlikeButInput x y → AlikeButInput ((bus_device observe).after_poke x addr v) ((bus_device observe).after_poke y addr v)
  pokes-alike x y addr v h =
      let board = write-alike x.board y.board addr v (ap (λ (o : Observed Seen). o.board) h) in
      let seen = ap (λ (o : Observed Seen). o.seen) h in
      λ i. record { board = board i; seen = seen i }

  time-blind : (n k : ℕ) (o : Observed Seen) → blind (after_time observe n k o) ≡ after_time observe n k (blind o)
  time-blind n k o =
      let tia = clocks-unpressed k o.board.tia in
      let seen = looks k o.board.tia (tia_unpressed o.board.tia) o.seen refl in
      λ i. record {
        board = record { rom = o.board.rom; pins = record { a = 0; b = 0 }; riot = riot_after_ticks n o.board.riot; tia = tia i };
        seen = seen i;
      }

  time-alike : (x y : Observed Seen) (n k : ℕ) → AlikeButInput x y → AlikeButInput (after_time observe n k x) (after_time observe n k y)
  time-alike x y n k h = time-blind n k x ∙ ap (after_time observe n k) h ∙ sym (time-blind n k y)

  abbrev cleared : Observed Seen → Observed Seen
  cleared o = record o { board = record o.board { tia = wait_cleared o.board.tia } }

  wait-blind : (o : Observed Seen) → blind (after_wait observe o) ≡ after_wait observe (blind o)
  wait-blind o = time-blind (clocks_owed o.board.tia / 3) (clocks_owed o.board.tia) (cleared o)

  wait-alike : (x y : Observed Seen) → AlikeButInput x y → AlikeButInput (after_wait observe x) (after_wait observe y)
  wait-alike x y h = wait-blind x ∙ ap (after_wait observe) h ∙ sym (wait-blind y)

  -- a step that reads nothing that shows the input
  pub console_step-alike : (r : Regs) (x y : Observed Seen) → AlikeButInput x y → list_any (shows_input x.board) (addresses_read r (board_byte_at x.board)) ≡ false →
      EndAlike AlikeButInput (console_step observe r x) (console_step observe r y)
  unfolding console_step
  console_step-alike r x y h none =
      let bus = bus_device observe in
      with_wait-alike AlikeButInput observe wait-alike (step_of bus r x) (step_of bus r y)
      (instruction-alike AlikeButInput bus (λ o addr. shows_input o.board addr) reads-alike loads-alike pokes-alike
      (λ o p n. time-alike o p n (3 * n)) (λ o addr. input_loaded o.board addr) (λ o n. input_by_pins (bus.after_advance o n).board o.board refl) r x y h none)
