-- The time on the bus and the beam's clocks.
use Rattle.std.proofs.Common.{◌≡◌, ℕ, zero, suc, ◌+◌, ◌-◌, ◌*◌, ◌%◌, ◌<◌, ◌≤◌, Bool, true, false, ◌∙◌, sym, refl, arith}
use Rattle.vcs_tia.specs.declared.chip.Tia.{Tia}
use Rattle.vcs_tia.specs.Tia.{clocks_passed, clock_of, clocks_owed}
use Rattle.vcs_tia.specs.Trace.{after_clocks}
use Rattle.vcs_tia.proofs.Later.{clocks_owed-some, clocks_owed-none, clocks_owed-unowed}
use Rattle.vcs_tia.proofs.Traces.{clocks_passed-after_clocks}
use Rattle.vcs_machine.specs.Inside.Times.{first_time}
use Rattle.vcs_machine.specs.Inside.Console.{content_of, clocks_of, now_of}
use Rattle.vcs_machine.specs.declared.bus.ConsoleBus.{ConsoleBus}
use Rattle.vcs_machine.specs.declared.observer.Observer.{Ghosts}

-- the beam of a bus's content is where the time says
pub passed : {O : Type 0} {observer : Ghosts O} (b : ConsoleBus O observer) → clocks_passed (content_of b).board.tia + 3 * first_time ≡ 3 * now_of b
passed b =
    let behind = clocks_passed-after_clocks (clocks_of b) b.tia.now in
    omega (arith, behind, b.beam, b.tia_past)

pub past : {O : Type 0} {observer : Ghosts O} (b : ConsoleBus O observer) → clocks_passed b.tia.now + clocks_of b + 3 * first_time ≡ 3 * now_of b
past b = omega (arith, b.beam, b.tia_past)

-- no TIA is earlier than line 0
pub first : {O : Type 0} {observer : Ghosts O} (b : ConsoleBus O observer) → first_time ≤ b.tia_at
first b = omega (arith, b.beam)

-- ---- how long a wait lasts

-- a line begins now
at_start : (line clock n now then : ℕ) → line * 228 + clock + n + 3 * first_time ≡ 3 * now → (then - first_time) % 76 ≡ 0 → now ≤ then → then < now + 76 →
    0 ≡ (clock + n) % 228 → 3 * (then - now) ≡ 0
at_start line clock n now then time start next near none = omega (arith, time, start, next, near, none)

-- it begins some clocks later
before_start : (line clock n now then k : ℕ) → line * 228 + clock + n + 3 * first_time ≡ 3 * now → (then - first_time) % 76 ≡ 0 → now ≤ then → then < now + 76 →
    suc k ≡ (clock + n) % 228 → 3 * (then - now) ≡ 228 - suc k
before_start line clock n now then k time start next near some = omega (arith, time, start, next, near, some)

module _ (t : Tia) (n now then : ℕ) (below : clock_of t < 228) (time : clocks_passed t + n + 3 * first_time ≡ 3 * now) (next : now ≤ then) (near : then < now + 76) where
  by_clock : (clock : ℕ) → clock ≡ (t.beam.clock + n) % 228 → t.sync.wait_owed ≡ true → (then - first_time) % 76 ≡ 0 → 3 * (then - now) ≡ clocks_owed (after_clocks n t)
  by_clock zero e owed start = at_start t.beam.line t.beam.clock n now then time start next near e ∙ clocks_owed-none n 0 t below e refl
  by_clock (suc k) e owed start = before_start t.beam.line t.beam.clock n now then k time start next near e ∙ clocks_owed-some n (suc k) t below e owed (λ z. omega (arith, z))

  pub owed-time : (owed : Bool) → owed ≡ t.sync.wait_owed → (owed ≡ false → then ≡ now) → (owed ≡ true → (then - first_time) % 76 ≡ 0) → 3 * (then - now) ≡ clocks_owed (after_clocks n t)
  owed-time true is same start = by_clock ((t.beam.clock + n) % 228) refl (sym is) (start refl)
  owed-time false is same start =
      let none : 3 * (then - now) ≡ 0 = omega (arith, same refl) in
      none ∙ clocks_owed-unowed n t (sym is)
