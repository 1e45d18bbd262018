-- Steps don't see the beam's line, VSYNC's rise or, where nothing is pressed, a new frame.
use Rattle.std.proofs.Common.{◌≡◌, ℕ, zero, suc, ◌+◌, ◌-◌, ◌*◌, ◌/◌, ◌==◌, Bool, true, false, ◌&&◌, ◌||◌, ◌∙◌, ap, sym, refl, subst, if◌then◌else◌, nat_lt}
use Rattle.vcs_cpu.specs.Reads.{addresses_read}
use Rattle.vcs_cpu.specs.Steps.{step_of}
use Rattle.vcs_cpu.specs.declared.regs.Regs.{Regs}
use Rattle.vcs_riot.specs.Chip.{riot_after_ticks}
use Rattle.vcs_tia.specs.declared.beam.Beam.{Beam}
use Rattle.vcs_tia.specs.declared.chip.Tia.{Tia}
use Rattle.vcs_tia.specs.declared.chip.Fire.{Fire}
use Rattle.vcs_tia.specs.declared.chip.Button.{Button}
use Rattle.vcs_tia.specs.declared.register.Register.{Register}
use Rattle.vcs_tia.specs.declared.register.Register.TheVariants.{Vsync, Vblank, Wsync, Nusiz0, Nusiz1, Colup0, Colup1, Colupf, Colubk, Ctrlpf, Refp0, Refp1, Pf0, Pf1, Pf2, Resp0, Resp1, Resm0, Resm1, Resbl, Grp0, Grp1, Enam0, Enam1, Enabl, Hmp0, Hmp1, Hmm0, Hmm1, Hmbl, Vdelp0, Vdelp1, Vdelbl, Resmp0, Resmp1, Hmove, Hmclr, Cxclr, Unused}
use Rattle.vcs_tia.specs.Register.{register_at}
use Rattle.vcs_tia.specs.Tia.{written, after_clock, latches_at, clocks_owed, wait_cleared, frame_started, frame_ended, button_pressed}
use Rattle.vcs_tia.specs.Trace.{after_clocks}
use Rattle.vcs_tia.proofs.Later.{fire-after_clocks}
use Rattle.vcs_machine.specs.declared.address.Region.{Region}
use Rattle.vcs_machine.specs.declared.address.Region.TheVariants as region
use Rattle.vcs_machine.specs.Address.{selected}
use Rattle.vcs_machine.specs.Bus.{Board, Observed, byte_of, stored, board_byte_at, board_after_load, board_after_write, bus_device, after_time, after_wait, nothing_seen}
use Rattle.vcs_machine.specs.Step.{console_step}
use Rattle.vcs_machine.specs.Frame.{is_frame_over}
use Rattle.vcs_machine.specs.Inside.TraceFrames.{board_into_next_frame}
use Rattle.vcs_machine.proofs.AlikeSteps.{EndAlike, instruction-alike, none_tells, with_wait-alike}
use Rattle.vcs_machine.proofs.Clocks.{kept-board_after_write, load-changed, tia-board_after_load}

-- ---- the TIA without the beam's line and VSYNC's rise

abbrev pub beam_without_line : Beam → Beam
beam_without_line b = record b { line = 0 }

abbrev pub without_line : Tia → Tia
without_line t = record t { beam = beam_without_line t.beam; sync = record t.sync { rose = false } }

next_beam-without_line : (last : Bool) (b : Beam) →
    beam_without_line (if last then record { line = b.line + 1; clock = 0; hmove_blank = false } else record b { clock = b.clock + 1 })
    ≡ beam_without_line (if last then record { line = 0 + 1; clock = 0; hmove_blank = false } else record (beam_without_line b) { clock = b.clock + 1 })
next_beam-without_line true b = refl
next_beam-without_line false b = refl

clock-without_line : (t : Tia) → without_line (after_clock t) ≡ without_line (after_clock (without_line t))
unfolding after_clock
clock-without_line t =
    ap (λ (b : Beam). record t {
      latches = (if nat_lt t.beam.clock 68 then t.latches else latches_at t (t.beam.clock - 68));
      beam = b;
      sync = record t.sync { rose = false };
    }) (next_beam-without_line (t.beam.clock == 227) t.beam)

clock-alike : (t u : Tia) → without_line t ≡ without_line u → without_line (after_clock t) ≡ without_line (after_clock u)
clock-alike t u e = clock-without_line t ∙ ap (λ (v : Tia). without_line (after_clock v)) e ∙ sym (clock-without_line u)

clocks-alike : (n : ℕ) (t u : Tia) → without_line t ≡ without_line u → without_line (after_clocks n t) ≡ without_line (after_clocks n u)
unfolding after_clocks
clocks-alike zero t u e = e
clocks-alike (suc n) t u e = clocks-alike n (after_clock t) (after_clock u) (clock-alike t u e)

written-without_line : (r : Register) (v h : ℕ) (t : Tia) → without_line (written r v h t) ≡ without_line (written r v h (without_line t))
written-without_line Vsync v h t = refl
written-without_line Vblank v h t = refl
written-without_line Wsync v h t = refl
written-without_line Nusiz0 v h t = refl
written-without_line Nusiz1 v h t = refl
written-without_line Colup0 v h t = refl
written-without_line Colup1 v h t = refl
written-without_line Colupf v h t = refl
written-without_line Colubk v h t = refl
written-without_line Ctrlpf v h t = refl
written-without_line Refp0 v h t = refl
written-without_line Refp1 v h t = refl
written-without_line Pf0 v h t = refl
written-without_line Pf1 v h t = refl
written-without_line Pf2 v h t = refl
written-without_line Resp0 v h t = refl
written-without_line Resp1 v h t = refl
written-without_line Resm0 v h t = refl
written-without_line Resm1 v h t = refl
written-without_line Resbl v h t = refl
written-without_line Grp0 v h t = refl
written-without_line Grp1 v h t = refl
written-without_line Enam0 v h t = refl
written-without_line Enam1 v h t = refl
written-without_line Enabl v h t = refl
written-without_line Hmp0 v h t = refl
written-without_line Hmp1 v h t = refl
written-without_line Hmm0 v h t = refl
written-without_line Hmm1 v h t = refl
written-without_line Hmbl v h t = refl
written-without_line Vdelp0 v h t = refl
written-without_line Vdelp1 v h t = refl
written-without_line Vdelbl v h t = refl
written-without_line Resmp0 v h t = refl
written-without_line Resmp1 v h t = refl
written-without_line Hmove v h t = refl
written-without_line Hmclr v h t = refl
written-without_line Cxclr v h t = refl
written-without_line Unused v h t = refl

-- ---- nothing is pressed

abbrev pub are_pressed : Tia → Bool × Bool
are_pressed t = (t.fire.left.pressed, t.fire.right.pressed)

pressed-written : (r : Register) (v h : ℕ) (t : Tia) → are_pressed (written r v h t) ≡ are_pressed t
pressed-written Vsync v h t = refl
pressed-written Vblank v h t = refl
pressed-written Wsync v h t = refl
pressed-written Nusiz0 v h t = refl
pressed-written Nusiz1 v h t = refl
pressed-written Colup0 v h t = refl
pressed-written Colup1 v h t = refl
pressed-written Colupf v h t = refl
pressed-written Colubk v h t = refl
pressed-written Ctrlpf v h t = refl
pressed-written Refp0 v h t = refl
pressed-written Refp1 v h t = refl
pressed-written Pf0 v h t = refl
pressed-written Pf1 v h t = refl
pressed-written Pf2 v h t = refl
pressed-written Resp0 v h t = refl
pressed-written Resp1 v h t = refl
pressed-written Resm0 v h t = refl
pressed-written Resm1 v h t = refl
pressed-written Resbl v h t = refl
pressed-written Grp0 v h t = refl
pressed-written Grp1 v h t = refl
pressed-written Enam0 v h t = refl
pressed-written Enam1 v h t = refl
pressed-written Enabl v h t = refl
pressed-written Hmp0 v h t = refl
pressed-written Hmp1 v h t = refl
pressed-written Hmm0 v h t = refl
pressed-written Hmm1 v h t = refl
pressed-written Hmbl v h t = refl
pressed-written Vdelp0 v h t = refl
pressed-written Vdelp1 v h t = refl
pressed-written Vdelbl v h t = refl
pressed-written Resmp0 v h t = refl
pressed-written Resmp1 v h t = refl
pressed-written Hmove v h t = refl
pressed-written Hmclr v h t = refl
pressed-written Cxclr v h t = refl
pressed-written Unused v h t = refl

-- ---- the board

abbrev pub board_without_line : Board → Board
board_without_line b = record b { tia = without_line b.tia }

-- equal but for the line and the rise, with nothing pressed
pub record BoardsAlike (o p : Observed (Unit {0})) : Type 0 where
  pub same : board_without_line o.board ≡ board_without_line p.board
  pub none_pressed : are_pressed o.board.tia ≡ (false, false)

byte_of-without_line : (s : Region) (b : Board) (addr : ℕ) → byte_of s b addr ≡ byte_of s (board_without_line b) addr
byte_of-without_line region.Cartridge b addr = refl
byte_of-without_line region.Ram b addr = refl
byte_of-without_line region.PortsAndTimer b addr = refl
byte_of-without_line region.Tia b addr = refl

reads-alike : (o p : Observed (Unit {0})) → BoardsAlike o p → (bus_device nothing_seen).byte_at o ≡ (bus_device nothing_seen).byte_at p
reads-alike o p h = λ i addr.
    (byte_of-without_line (selected addr) o.board addr ∙ ap (λ (b : Board). board_byte_at b addr) h.same ∙ sym (byte_of-without_line (selected addr) p.board addr)) i

pub byte-alike : (addr : ℕ) (o p : Observed (Unit {0})) → BoardsAlike o p → board_byte_at o.board addr ≡ board_byte_at p.board addr
byte-alike addr o p h = ap (λ (m : ℕ → ℕ). m addr) (reads-alike o p h)

board_load-without_line : (b : Board) (addr : ℕ) → board_without_line (board_after_load b addr) ≡ board_after_load (board_without_line b) addr
board_load-without_line b addr = load-changed board_without_line (λ c r. refl) (λ c. refl) b addr

loads-alike : (o p : Observed (Unit {0})) (addr : ℕ) → BoardsAlike o p →
    BoardsAlike ((bus_device nothing_seen).after_load o addr) ((bus_device nothing_seen).after_load p addr)
loads-alike o p addr h = record {
  same = board_load-without_line o.board addr ∙ ap (λ (b : Board). board_after_load b addr) h.same ∙ sym (board_load-without_line p.board addr);
  none_pressed = ap are_pressed (tia-board_after_load o.board addr) ∙ h.none_pressed;
}

stored-without_line : (s : Region) (b : Board) (addr v : ℕ) → board_without_line (stored s b addr v) ≡ board_without_line (stored s (board_without_line b) addr v)
stored-without_line region.Cartridge b addr v = refl
stored-without_line region.Ram b addr v = refl
stored-without_line region.PortsAndTimer b addr v = refl
stored-without_line region.Tia b addr v = ap (λ (x : Tia). record b { tia = x }) (written-without_line (register_at addr) v b.tia.beam.clock b.tia)

board_write-without_line : (b : Board) (addr v : ℕ) → board_without_line (board_after_write b addr v) ≡ board_without_line (board_after_write (board_without_line b) addr v)
board_write-without_line b addr v = stored-without_line (selected addr) b addr v

pokes-alike : (o p : Observed (Unit {0})) (addr v : ℕ) → BoardsAlike o p →
    BoardsAlike ((bus_device nothing_seen).after_poke o addr v) ((bus_device nothing_seen).after_poke p addr v)
pokes-alike o p addr v h = record {
  same = board_write-without_line o.board addr v
      ∙ ap (λ (b : Board). board_without_line (board_after_write b addr v)) h.same ∙ sym (board_write-without_line p.board addr v);
  none_pressed = kept-board_after_write are_pressed (λ a w t. pressed-written (register_at a) w t.beam.clock t) o.board addr v ∙ h.none_pressed;
}

time-alike : (n k : ℕ) (o p : Observed (Unit {0})) → BoardsAlike o p → BoardsAlike (after_time nothing_seen n k o) (after_time nothing_seen n k p)
time-alike n k o p h = record {
  same = ap (λ (b : Board). record b { riot = riot_after_ticks n b.riot; tia = without_line (after_clocks k o.board.tia) }) h.same
      ∙ ap (λ (t : Tia). record p.board { riot = riot_after_ticks n p.board.riot; tia = t }) (clocks-alike k o.board.tia p.board.tia (ap (λ (b : Board). b.tia) h.same));
  none_pressed = ap (λ (f : Fire). (f.left.pressed, f.right.pressed)) (fire-after_clocks k o.board.tia) ∙ h.none_pressed;
}

abbrev cleared : Observed (Unit {0}) → Observed (Unit {0})
cleared o = record o { board = record o.board { tia = wait_cleared o.board.tia } }

cleared-alike : (o p : Observed (Unit {0})) → BoardsAlike o p → BoardsAlike (cleared o) (cleared p)
cleared-alike o p h = record { same = ap (λ (b : Board). record b { tia = wait_cleared b.tia }) h.same; none_pressed = h.none_pressed }

wait-alike : (o p : Observed (Unit {0})) → BoardsAlike o p → BoardsAlike (after_wait nothing_seen o) (after_wait nothing_seen p)
wait-alike o p h =
    subst (λ k. BoardsAlike (after_wait nothing_seen o) (after_time nothing_seen (k / 3) k (cleared p))) (ap (λ (b : Board). clocks_owed b.tia) h.same)
    (time-alike (clocks_owed o.board.tia / 3) (clocks_owed o.board.tia) (cleared o) (cleared p) (cleared-alike o p h))

-- one step of the console from boards that are alike
pub console_step-alike : (r : Regs) (o p : Observed (Unit {0})) → BoardsAlike o p → EndAlike BoardsAlike (console_step nothing_seen r o) (console_step nothing_seen r p)
unfolding console_step
console_step-alike r o p h =
    let bus = bus_device nothing_seen in
    with_wait-alike BoardsAlike nothing_seen wait-alike (step_of bus r o) (step_of bus r p)
    (instruction-alike BoardsAlike bus (λ x addr. false) (λ x y addr alike none. byte-alike addr x y alike) loads-alike pokes-alike
    (λ x y n. time-alike n (3 * n) x y) (λ x addr. refl) (λ x n. refl) r o p h (none_tells (addresses_read r (bus.byte_at o))))

-- ---- a new frame

latched-still : (latched latching : Bool) → (latched || (latching && false)) ≡ latched
latched-still true latching = refl
latched-still false true = refl
latched-still false false = refl

button-still : (b : Button) (latching : Bool) → b.pressed ≡ false → button_pressed (record b { pressed = false }) false latching ≡ b
button-still b latching h =
    ap (λ (l : Bool). record b { pressed = false; latched = l }) (latched-still b.latched latching) ∙ ap (λ (x : Bool). record b { pressed = x }) (sym h)

next-without_line : (over : Bool) (t : Tia) → are_pressed t ≡ (false, false) →
    without_line (if over then frame_started false false (frame_ended t) else t) ≡ without_line t
next-without_line true t h =
    let left = button-still t.fire.left t.fire.latching (ap (λ (x : Bool × Bool). x.0) h) in
    let right = button-still t.fire.right t.fire.latching (ap (λ (x : Bool × Bool). x.1) h) in
    ap (λ (b : Button). record (without_line t) { fire = record t.fire { left = b; right = button_pressed (record t.fire.right { pressed = false }) false t.fire.latching } }) left
    ∙ ap (λ (b : Button). record (without_line t) { fire = record t.fire { right = b } }) right
next-without_line false t h = refl

next-pressed : (over : Bool) (t : Tia) → are_pressed t ≡ (false, false) → are_pressed (if over then frame_started false false (frame_ended t) else t) ≡ (false, false)
next-pressed true t h = refl
next-pressed false t h = h

-- the next frame's start is like the board before it
pub next_frame-alike : (o p : Observed (Unit {0})) → BoardsAlike o p → BoardsAlike (board_into_next_frame o) p
next_frame-alike o p h = record {
  same = ap (λ (t : Tia). record o.board { tia = t }) (next-without_line (is_frame_over o.board.tia) o.board.tia h.none_pressed) ∙ h.same;
  none_pressed = next-pressed (is_frame_over o.board.tia) o.board.tia h.none_pressed;
}
