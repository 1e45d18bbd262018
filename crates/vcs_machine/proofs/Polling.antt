-- Polls of the timer while nothing else happens.
use Rattle.std.proofs.Common.{◌≡◌, ℕ, zero, suc, ◌+◌, ◌*◌, ◌/◌, ◌%◌, ◌==◌, ◌&&◌, ◌<◌, ◌≤◌, ◌∙◌, ap, sym, subst, refl, Bool, true, false, true≢false, List, [], ◌++◌, if◌then◌else◌, arith}
use Rattle.std.proofs.lemmas.Bool.Decides.{nat_tests}
use Rattle.std.proofs.Math.Nat.{mul-le-mul_right}
use Rattle.vcs_cpu.specs.declared.bus.Poll.{Poll}
use Rattle.vcs_cpu.specs.Operands.{address_after}
use Rattle.vcs_cpu.specs.Polls.{Rests, IsPoll, polled_byte, after_poll_read, after_poll, after_polls}
use Rattle.vcs_cpu.specs.Runs.{IsSettled}
use Rattle.vcs_riot.specs.declared.chip.Pins.{Pins}
use Rattle.vcs_riot.specs.declared.chip.Riot.{Riot}
use Rattle.vcs_riot.specs.declared.timer.Timer.{Timer}
use Rattle.vcs_riot.specs.Address.{is_high}
use Rattle.vcs_riot.specs.Chip.{riot_after_ticks, riot_after_load, byte_at, timer_byte_at, timer_after_load}
use Rattle.vcs_riot.specs.Timer.{after_count_loaded, status_of}
use Rattle.vcs_tia.specs.declared.chip.Tia.{Tia}
use Rattle.vcs_tia.specs.declared.chip.Sync.{Sync}
use Rattle.vcs_tia.specs.Tia.{clocks_passed}
use Rattle.vcs_tia.proofs.Later.{sync-after_clocks}
use Rattle.vcs_inputs.specs.Cart.{rom_byte}
use Rattle.vcs_machine.specs.declared.address.Region.{Region}
use Rattle.vcs_machine.specs.declared.address.Region.TheVariants as region
use Rattle.vcs_machine.specs.Address.{selected, are_ports_and_timer, is_timer}
use Rattle.vcs_machine.specs.Bus.{Board, Observed, observed_of, byte_of, loaded, board_byte_at, board_after_load, bus_device, after_time}
use Rattle.vcs_machine.specs.Inside.Chips.{IsStill}
use Rattle.vcs_machine.specs.Inside.Times.{end_time}
use Rattle.vcs_machine.specs.Inside.Waiting.{IsWait, MayWait}
use Rattle.vcs_machine.specs.Inside.Console.{content_of, ticks_of, clocks_of, settles_of}
use Rattle.vcs_machine.specs.Frame.{console_settling}
use Rattle.vcs_machine.specs.declared.bus.ConsoleBus.{ConsoleBus}
use Rattle.vcs_machine.specs.declared.observer.Observer.{Ghosts}
use Rattle.vcs_machine.proofs.Lagging.{lagging_of, after_time-add, after_wait-none, not_over-early, lagging-same}
use Rattle.vcs_machine.proofs.BusTime.{past}
use Rattle.vcs_machine.proofs.Selecting.{lines_of_ports}

-- what the timer's addresses select, and their line A2
pub record AreTimer (s : Region) (d : Bool) : Type 0 where
  pub selects : s ≡ region.PortsAndTimer
  pub timer : d ≡ true

timer_lines : (s : Region) (timer : Bool) → (are_ports_and_timer s && timer) ≡ true → AreTimer s timer
timer_lines region.PortsAndTimer true e = record { selects = refl; timer = refl }
timer_lines region.PortsAndTimer false e = absurd (true≢false (sym e))
timer_lines region.Cartridge timer e = absurd (true≢false (sym e))
timer_lines region.Ram timer e = absurd (true≢false (sym e))
timer_lines region.Tia timer e = absurd (true≢false (sym e))

pub lines_of : (addr : ℕ) → is_timer addr ≡ true → AreTimer (selected addr) (is_high 2 addr)
lines_of addr = timer_lines (selected addr) (is_high 2 addr)

-- what a read of the timer shows
pub timer-riot : (r : Riot) (pins : Pins) (addr : ℕ) → is_timer addr ≡ true → byte_at addr pins r ≡ timer_byte_at addr r.timer
timer-riot r pins addr is = let l = lines_of addr is in rw ((lines_of_ports addr l.selects).upper, l.timer) refl

pub timer-byte : (b : Board) (addr : ℕ) → is_timer addr ≡ true → board_byte_at b addr ≡ timer_byte_at addr b.riot.timer
timer-byte b addr is = ap (λ s. byte_of s b addr) (lines_of addr is).selects ∙ timer-riot b.riot b.pins addr is

-- while polls wait, it takes their branch
wait-taken : (status while_zero : Bool) (t : Timer) → status ≡ while_zero → MayWait while_zero t → ((if status then status_of t else t.count) == 0) ≡ while_zero
wait-taken true true t e may = rw may refl
wait-taken false false t e may = let some = may.0 in grind (arith, nat_tests, some)
wait-taken true false t e may = absurd (true≢false e)
wait-taken false true t e may = absurd (true≢false (sym e))

-- and it changes nothing
wait-load : (status while_zero : Bool) (t : Timer) → status ≡ while_zero → MayWait while_zero t → (if status then t else after_count_loaded t) ≡ t
wait-load true true t e may = refl
wait-load false false t e may = ap (λ (f : Bool). record t { flag = f }) (sym may.1.1)
wait-load true false t e may = absurd (true≢false e)
wait-load false true t e may = absurd (true≢false (sym e))

timer-load : (b : Board) (addr : ℕ) (while_zero : Bool) → is_timer addr ≡ true → is_high 0 addr ≡ while_zero → MayWait while_zero b.riot.timer → board_after_load b addr ≡ b
timer-load b addr while_zero is status may =
    let l = lines_of addr is in
    let same : riot_after_load addr b.riot ≡ record b.riot { timer = timer_after_load addr b.riot.timer } = rw ((lines_of_ports addr l.selects).upper, l.timer) refl in
    ap (λ s. loaded s b addr) l.selects ∙ ap (λ (r : Riot). record b { riot = r }) same
    ∙ ap (λ (t : Timer). record b { riot = record b.riot { timer = t } }) (wait-load (is_high 0 addr) while_zero b.riot.timer status may)

add-one : (i period : ℕ) → suc i * period ≡ i * period + period
add-one i period = grind arith

-- the polls before the last end before it does
pub polls-before : (i polls period : ℕ) → i < polls → i * period + period ≤ polls * period
polls-before i polls period h =
    let most : suc i * period ≤ polls * period = mul-le-mul_right period h in
    let same = add-one i period in
    omega (arith, most, same)

-- five bytes of code in a cartridge
same_code : (b c : Board) (pc k : ℕ) → b.rom ≡ c.rom → 4096 ≤ pc % 8192 → pc % 8192 ≤ 8187 → pc < 65536 → k < 5 → board_byte_at b (address_after pc k) ≡ board_byte_at c (address_after pc k)
same_code b c pc k same first last fits few =
    let addr = address_after pc k in
    let one : addr / 4096 % 2 ≡ 1 = omega (arith, first, last, fits, few) in
    let high : is_high 12 addr ≡ true = ap (λ n. n == 1) one in
    let selects : selected addr ≡ region.Cartridge = rw high refl in
    ap (λ s. byte_of s b addr) selects ∙ ap (λ r. rom_byte r addr) same ∙ sym (ap (λ s. byte_of s c addr) selects)

module _ {Seen : Type 0} (observe : List Tia → Seen → Seen) (nil : (s : Seen) → observe [] s ≡ s)
    (append : (xs ys : List Tia) (s : Seen) → observe (xs ++ ys) s ≡ observe ys (observe xs s))
    (rom : List ℕ) (pins : Pins) (riot : Riot) (t : Tia) (seen : Seen) (clocks : ℕ) where
  -- the board so many cycles later
  abbrev pub later : ℕ → Observed Seen
  later n = lagging_of observe rom pins riot t seen n (clocks + 3 * n)

  -- it rests where no wait is owed and the frame isn't over
  pub later-settled : (n : ℕ) → IsStill t → clocks_passed t + (clocks + 3 * n) < 320 * 228 → IsSettled (console_settling observe) (later n) (later n) false
  later-settled n still low = (
    sym (after_wait-none observe nil append (later n) (ap (λ (s : Sync). s.wait_owed) (sync-after_clocks (clocks + 3 * n) t) ∙ still.waits)),
    sym (not_over-early (clocks + 3 * n) t still.rose low),
  )

  later-advance : (n k : ℕ) → after_time observe k (3 * k) (later n) ≡ later (n + k)
  later-advance n k =
      let all : clocks + 3 * (n + k) ≡ clocks + 3 * n + 3 * k = omega arith in
      sym (after_time-add observe nil append n k (n + k) (clocks + 3 * n) (3 * k) (clocks + 3 * (n + k)) (observed_of rom pins riot t seen) refl all)

  module _ (pc address branch : ℕ) (while_zero : Bool) (is : is_timer address ≡ true) (status : is_high 0 address ≡ while_zero) where
    abbrev pub poll : Poll
    poll = record { pc = pc; address = address; branch = branch; while_zero = while_zero }

    -- the polls still wait so many cycles later
    abbrev pub WaitsAt : ℕ → Type 0
    WaitsAt n = MayWait while_zero (riot_after_ticks n riot).timer

    later-read : (n : ℕ) → WaitsAt (n + 4) → after_poll_read (bus_device observe) poll (later n) ≡ later (n + 4)
    later-read n waits =
        ap (λ (o : Observed Seen). record o { board = board_after_load o.board address }) (later-advance n 4)
        ∙ ap (λ (b : Board). record (later (n + 4)) { board = b }) (timer-load (later (n + 4)).board address while_zero is status waits)

    later-poll : (n : ℕ) → WaitsAt (n + 4) → after_poll (bus_device observe) poll (later n) ≡ later (n + (4 + branch))
    later-poll n waits =
        let all : n + 4 + branch ≡ n + (4 + branch) = omega arith in
        ap (λ (o : Observed Seen). after_time observe branch (3 * branch) o) (later-read n waits) ∙ later-advance (n + 4) branch ∙ ap later all

    -- i polls, at each of whose reads they still wait
    pub later-polls : (i n : ℕ) → ((j : ℕ) → j < i → WaitsAt (n + j * (4 + branch) + 4)) → after_polls (bus_device observe) poll i (later n) ≡ later (n + i * (4 + branch))
    later-polls zero n waits = let same : n ≡ n + 0 * (4 + branch) = omega arith in ap later same
    later-polls (suc i) n waits =
        let first : n + 0 * (4 + branch) + 4 ≡ n + 4 = omega arith in
        let all : n + (4 + branch) + i * (4 + branch) ≡ n + suc i * (4 + branch) = grind arith in
        ap (after_polls (bus_device observe) poll i) (later-poll n (subst WaitsAt first (waits 0 (omega arith))))
        ∙ later-polls i (n + (4 + branch)) (λ j h.
        let next : n + suc j * (4 + branch) + 4 ≡ n + (4 + branch) + j * (4 + branch) + 4 = grind arith in
        subst WaitsAt next (waits (suc j) (omega (arith, h))))
        ∙ ap later all

    -- what a poll reads
    pub later-byte : (n : ℕ) → polled_byte (bus_device observe) poll (later n) ≡ timer_byte_at address (riot_after_ticks (n + 4) riot).timer
    later-byte n = ap (λ (o : Observed Seen). board_byte_at o.board address) (later-advance n 4) ∙ timer-byte (later (n + 4)).board address is

    pub later-is_poll : {Bus : Type 0} (content_of : Bus → Observed Seen) (Settles : Bus → Bus → Bool → Type 0) (start : Observed Seen) (n : ℕ) →
        start.board.rom ≡ rom → 4096 ≤ pc % 8192 → pc % 8192 ≤ 8187 → pc < 65536 → WaitsAt (n + 4) →
        Rests (bus_device observe) content_of Settles (later (n + 4)) → Rests (bus_device observe) content_of Settles (later (n + (4 + branch))) →
        IsPoll (bus_device observe) content_of Settles poll start (later n)
    later-is_poll content_of Settles start n same first last fits waits read end = record {
      lda = λ k few. same_code (later n).board start.board pc k (sym same) first last fits (omega (arith, few));
      back = λ k few. ap (λ (o : Observed Seen). board_byte_at o.board (address_after pc k)) (later-read n waits) ∙ same_code (later (n + 4)).board start.board pc k (sym same) first last fits few;
      taken = ap (λ v. v == 0) (later-byte n) ∙ wait-taken (is_high 0 address) while_zero (riot_after_ticks (n + 4) riot).timer status waits;
      read = subst (Rests (bus_device observe) content_of Settles) (sym (later-read n waits)) read;
      branch = subst (Rests (bus_device observe) content_of Settles) (sym (later-poll n waits)) end;
    }

-- a bus whose RIOT has caught up
module _ {O : Type 0} {observer : Ghosts O} (nil : (s : observer.Seen) → observer.observe [] s ≡ s)
    (append : (xs ys : List Tia) (s : observer.Seen) → observer.observe (xs ++ ys) s ≡ observer.observe ys (observer.observe xs s))
    (b : ConsoleBus O observer) (none : ticks_of b ≡ 0) where
  -- its content so many cycles later
  abbrev pub at : ℕ → Observed observer.Seen
  at = later observer.observe nil append b.rom.now b.pins b.riot.now b.tia.now (observer.seen b.observer.now) (clocks_of b)

  at-now : at 0 ≡ content_of b
  at-now =
      let clocks : clocks_of b + 3 * 0 ≡ clocks_of b = omega arith in
      ap (λ n. lagging_of observer.observe b.rom.now b.pins b.riot.now b.tia.now (observer.seen b.observer.now) 0 n) clocks
      ∙ ap (λ n. lagging_of observer.observe b.rom.now b.pins b.riot.now b.tia.now (observer.seen b.observer.now) n (clocks_of b)) (sym none)

  -- until the count has come to its end it rests
  at-rests : (n : ℕ) → b.count + n < end_time → Rests (bus_device observer.observe) (content_of {O = O} {observer = observer}) settles_of (at n)
  at-rests n few =
      let still = b.still (omega (arith, few)) in
      let low : clocks_passed b.tia.now + (clocks_of b + 3 * n) < 320 * 228 = omega (arith, past b, b.tia_past, few) in
      let later : ConsoleBus O observer = record b { count = b.count + n; riot_past = omega (arith, b.riot_past); tia_past = omega (arith, b.tia_past); low = omega (arith, few); still = λ h. still } in
      let is : content_of later ≡ at n = lagging-same observer.observe nil append b.rom.now b.pins b.riot.now b.tia.now (observer.seen b.observer.now) (ticks_of later) (clocks_of later) n (clocks_of b + 3 * n)
      (omega (arith, none, b.riot_past)) (omega (arith, b.tia_past)) in
      record {
        bus = later;
        is = is;
        settles = subst (λ (o : Observed observer.Seen). IsSettled (console_settling observer.observe) o o false) (sym is)
            (later-settled observer.observe nil append b.rom.now b.pins b.riot.now b.tia.now (observer.seen b.observer.now) (clocks_of b) n still low);
      }

  module _ (poll : Poll) (is : IsWait poll) (polls to_wait : ℕ) (waits : (n : ℕ) → n < to_wait → MayWait poll.while_zero (riot_after_ticks n b.riot.now).timer)
      (reads : (i : ℕ) → i < polls → i * (4 + poll.branch) + 4 < to_wait) (fit : b.count + polls * (4 + poll.branch) < end_time) where
    pub at-polls : (i : ℕ) → i ≤ polls → after_polls (bus_device observer.observe) poll i (content_of b) ≡ at (0 + i * (4 + poll.branch))
    at-polls i few =
        ap (after_polls (bus_device observer.observe) poll i) (sym at-now)
        ∙ later-polls observer.observe nil append b.rom.now b.pins b.riot.now b.tia.now (observer.seen b.observer.now) (clocks_of b) poll.pc poll.address poll.branch poll.while_zero is.0 is.1 i 0
        (λ j h. let read = reads j (omega (arith, h, few)) in waits (0 + j * (4 + poll.branch) + 4) (omega (arith, read)))

    at-is_poll : (i : ℕ) → i < polls → 4096 ≤ poll.pc % 8192 → poll.pc % 8192 ≤ 8187 → poll.pc < 65536 →
        IsPoll (bus_device observer.observe) (content_of {O = O} {observer = observer}) settles_of poll (content_of b) (after_polls (bus_device observer.observe) poll i (content_of b))
    at-is_poll i h first last fits =
        let read = reads i h in
        let within = polls-before i polls (4 + poll.branch) h in
        subst (IsPoll (bus_device observer.observe) (content_of {O = O} {observer = observer}) settles_of poll (content_of b)) (sym (at-polls i (omega (arith, h))))
        (later-is_poll observer.observe nil append b.rom.now b.pins b.riot.now b.tia.now (observer.seen b.observer.now) (clocks_of b) poll.pc poll.address poll.branch poll.while_zero is.0 is.1
        (content_of {O = O} {observer = observer}) settles_of (content_of b) (0 + i * (4 + poll.branch)) refl first last fits
        (waits (0 + i * (4 + poll.branch) + 4) (omega (arith, read)))
        (at-rests (0 + i * (4 + poll.branch) + 4) (omega (arith, within, fit)))
        (at-rests (0 + i * (4 + poll.branch) + (4 + poll.branch)) (omega (arith, within, fit))))

    -- the same, for a content that is the bus's
    pub at-is_poll-from : (start : Observed observer.Seen) → content_of b ≡ start → (i : ℕ) → i < polls → 4096 ≤ poll.pc % 8192 → poll.pc % 8192 ≤ 8187 → poll.pc < 65536 →
        IsPoll (bus_device observer.observe) (content_of {O = O} {observer = observer}) settles_of poll start (after_polls (bus_device observer.observe) poll i start)
    at-is_poll-from start same i h first last fits =
        subst (λ (o : Observed observer.Seen). IsPoll (bus_device observer.observe) (content_of {O = O} {observer = observer}) settles_of poll o (after_polls (bus_device observer.observe) poll i o)) same
        (at-is_poll i h first last fits)

    -- what the last of them reads
    pub at-byte : (i last : ℕ) → polls ≡ i + 1 → last + poll.branch ≡ polls * (4 + poll.branch) →
        byte_at poll.address b.pins (riot_after_ticks last b.riot.now) ≡ polled_byte (bus_device observer.observe) poll (after_polls (bus_device observer.observe) poll i (content_of b))
    at-byte i last more end =
        let next : polls ≡ suc i = omega (arith, more) in
        let all : polls * (4 + poll.branch) ≡ i * (4 + poll.branch) + (4 + poll.branch) = ap (λ n. n * (4 + poll.branch)) next ∙ add-one i (4 + poll.branch) in
        let same : last ≡ 0 + i * (4 + poll.branch) + 4 = omega (arith, all, end) in
        ap (λ n. byte_at poll.address b.pins (riot_after_ticks n b.riot.now)) same
        ∙ timer-riot (riot_after_ticks (0 + i * (4 + poll.branch) + 4) b.riot.now) b.pins poll.address is.0
        ∙ sym (later-byte observer.observe nil append b.rom.now b.pins b.riot.now b.tia.now (observer.seen b.observer.now) (clocks_of b) poll.pc poll.address poll.branch poll.while_zero is.0 is.1 (0 + i * (4 + poll.branch)))
        ∙ ap (polled_byte (bus_device observer.observe) poll) (sym (at-polls i (omega (arith, more))))
