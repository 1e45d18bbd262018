-- Which reads show the input.
use Rattle.std.proofs.Common.{◌≡◌, ℕ, zero, suc, ◌/◌, ◌%◌, ◌==◌, ◌<◌, ◌≤◌, ◌∙◌, ◌&&◌, ◌||◌, ap, sym, refl, Bool, true, false, List, [], ◌∷◌, arith}
use Rattle.std.specs.List.{list_any}
use Rattle.std.proofs.lemmas.Bool.Decides.{nat_tests}
use Rattle.vcs_cpu.specs.declared.bus.Poll.{Poll}
use Rattle.vcs_cpu.specs.Operands.{address_after}
use Rattle.vcs_cpu.specs.Polls.{IsPollUnwatched}
use Rattle.vcs_cpu.specs.Reads.{IsCodeUnwatched}
use Rattle.vcs_riot.specs.Address.{is_high}
use Rattle.vcs_riot.specs.Chip as riot
use Rattle.vcs_machine.specs.declared.address.Region.TheVariants as region
use Rattle.vcs_machine.specs.Address.{selected, is_ram, is_timer}
use Rattle.vcs_machine.specs.Bus.{Board}
use Rattle.vcs_machine.specs.Inside.Waiting.{IsWait}
use Rattle.vcs_machine.specs.Lag.{shows_input_of, shows_input}
use Rattle.vcs_machine.proofs.Polling.{lines_of}
use Rattle.vcs_machine.proofs.Selecting.{lines_of_ram, lines_of_ports, ram_selected}

-- ---- regions that don't

pub cartridge-shows : (b : Board) (addr : ℕ) → is_high 12 addr ≡ true → shows_input b addr ≡ false
cartridge-shows b addr high =
    let selects : selected addr ≡ region.Cartridge = rw high refl in
    ap (λ s. shows_input_of s b addr) selects

pub ram-shows : (b : Board) (addr : ℕ) → selected addr ≡ region.Ram → shows_input b addr ≡ false
ram-shows b addr is =
    let shows : riot.shows_pin addr b.riot ≡ false = rw ((lines_of_ram addr is).upper) refl in
    ap (λ s. shows_input_of s b addr) is ∙ shows

timer-shows : (b : Board) (addr : ℕ) → is_timer addr ≡ true → shows_input b addr ≡ false
timer-shows b addr is =
    let l = lines_of addr is in
    let shows : riot.shows_pin addr b.riot ≡ false = rw ((lines_of_ports addr l.selects).upper, l.timer) refl in
    ap (λ s. shows_input_of s b addr) l.selects ∙ shows

no_button : (n : ℕ) → n < 2 → (n == 12 || n == 13) ≡ false
no_button zero h = refl
no_button (suc zero) h = refl
no_button (suc (suc n)) h = absurd (omega (arith, h))

-- the TIA's first two addresses
tia-shows : (b : Board) (addr : ℕ) → is_high 12 addr ≡ false → addr % 256 < 2 → shows_input b addr ≡ false
tia-shows b addr top low =
    let zero_7 : addr / 128 % 2 ≡ 0 = omega (arith, low) in
    let chip : is_high 7 addr ≡ false = ap (λ n. n == 1) zero_7 in
    let selects : selected addr ≡ region.Tia = rw (top, chip) refl in
    ap (λ s. shows_input_of s b addr) selects ∙ no_button (addr % 16) (omega (arith, low))

-- ---- code

line_high : (n : ℕ) → (n == 1) ≡ true → n ≡ 1
line_high n e = grind (arith, nat_tests, e)

line_low : (n : ℕ) → n < 2 → (n == 1) ≡ false → n ≡ 0
line_low zero h e = refl
line_low (suc zero) h e = cc
line_low (suc (suc n)) h e = absurd (omega (arith, h))

after_cartridge : (b : Board) (pc k : ℕ) (top : Bool) → pc / 4096 % 2 ≡ 1 → pc < 65536 → k < 3 → is_high 12 (address_after pc k) ≡ top → shows_input b (address_after pc k) ≡ false
after_cartridge b pc k true high fits few is = cartridge-shows b (address_after pc k) is
after_cartridge b pc k false high fits few is =
    let low : address_after pc k / 4096 % 2 ≡ 0 = line_low (address_after pc k / 4096 % 2) (omega arith) is in
    tia-shows b (address_after pc k) is (omega (arith, high, fits, few, low))

after_ram : (b : Board) (pc k : ℕ) (chip : Bool) → pc / 4096 % 2 ≡ 0 → pc / 128 % 2 ≡ 1 → pc / 512 % 2 ≡ 0 → pc < 65536 → k < 3 → is_high 7 (address_after pc k) ≡ chip →
    shows_input b (address_after pc k) ≡ false
after_ram b pc k true top chip upper fits few is =
    let addr = address_after pc k in
    let high : addr / 128 % 2 ≡ 1 = line_high (addr / 128 % 2) is in
    let zero_12 : addr / 4096 % 2 ≡ 0 = omega (arith, top, chip, upper, fits, few, high) in
    let zero_9 : addr / 512 % 2 ≡ 0 = omega (arith, top, chip, upper, fits, few, high) in
    let a12 : is_high 12 addr ≡ false = ap (λ n. n == 1) zero_12 in
    let a9 : is_high 9 addr ≡ false = ap (λ n. n == 1) zero_9 in
    ram-shows b addr (rw (a12, is, a9) refl)
after_ram b pc k false top chip upper fits few is =
    let addr = address_after pc k in
    let low : addr / 128 % 2 ≡ 0 = line_low (addr / 128 % 2) (omega arith) is in
    let zero_12 : addr / 4096 % 2 ≡ 0 = omega (arith, top, chip, upper, fits, few) in
    tia-shows b addr (ap (λ n. n == 1) zero_12) (omega (arith, top, chip, upper, fits, few, low))

pub unless_watched : (watches shows : Bool) → shows ≡ false → (watches && shows) ≡ false
unless_watched true shows h = h
unless_watched false shows h = refl

-- code that begins in the cartridge or in RAM
pub cartridge-unwatched : (watches : Bool) (b : Board) (pc : ℕ) → is_high 12 pc ≡ true → pc < 65536 → IsCodeUnwatched (λ addr. watches && shows_input b addr) pc
cartridge-unwatched watches b pc high fits = λ k few.
    unless_watched watches _ (after_cartridge b pc k (is_high 12 (address_after pc k)) (line_high (pc / 4096 % 2) high) fits few refl)

pub ram-unwatched : (watches : Bool) (b : Board) (pc : ℕ) → is_ram (selected pc) ≡ true → pc < 65536 → IsCodeUnwatched (λ addr. watches && shows_input b addr) pc
ram-unwatched watches b pc is fits = λ k few.
    let lines = lines_of_ram pc (ram_selected (selected pc) is) in
    let top : pc / 4096 % 2 ≡ 0 = line_low (pc / 4096 % 2) (omega arith) lines.top in
    let chip : pc / 128 % 2 ≡ 1 = line_high (pc / 128 % 2) lines.chip in
    let upper : pc / 512 % 2 ≡ 0 = line_low (pc / 512 % 2) (omega arith) lines.upper in
    unless_watched watches _ (after_ram b pc k (is_high 7 (address_after pc k)) top chip upper fits few refl)

-- polls that wait for the timer
pub poll-unwatched : (watches : Bool) (b : Board) (poll : Poll) → IsWait poll → 4096 ≤ poll.pc % 8192 → poll.pc % 8192 ≤ 8187 → poll.pc < 65536 → IsPollUnwatched poll (λ addr. watches && shows_input b addr)
poll-unwatched watches b poll is first last fits = record {
  code = λ k few.
      let one : address_after poll.pc k / 4096 % 2 ≡ 1 = omega (arith, first, last, fits, few) in
      unless_watched watches _ (cartridge-shows b (address_after poll.pc k) (ap (λ n. n == 1) one));
  byte = unless_watched watches _ (timer-shows b poll.address is.0);
}

-- ---- where none is watched

none_of : (p : ℕ → Bool) (xs : List ℕ) → list_any (λ addr. false && p addr) xs ≡ false
none_of p [] = refl
none_of p (x ∷ xs) = none_of p xs

pub never_stops : (watches : Bool) → watches ≡ false → (p : ℕ → Bool) (xs : List ℕ) → false ≡ list_any (λ addr. watches && p addr) xs
never_stops watches none p xs = sym (ap (λ (w : Bool). list_any (λ addr. w && p addr) xs) none ∙ none_of p xs)

-- ---- where each is watched that shows the input

pub stops_where : (watches : Bool) → watches ≡ true → (p : ℕ → Bool) (xs : List ℕ) → list_any p xs ≡ list_any (λ addr. watches && p addr) xs
stops_where watches all p xs = ap (λ (w : Bool). list_any (λ addr. w && p addr) xs) (sym all)
