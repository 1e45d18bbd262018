-- A frame's steps are a run of the processor's, and they come to an end.
use Rattle.std.proofs.Common.{◌≡◌, ◌≤◌, ◌<◌, ℕ, zero, suc, ◌+◌, ◌*◌, ◌∙◌, ◌||◌, nat_le, ap, refl, Bool, true, false, List, Option, Some, None, Result, Ok, Err, if◌then◌else◌, arith}
use Rattle.std.proofs.lemmas.Bool.Decides.{nat_tests}
use Rattle.vcs_cpu.specs.declared.regs.Regs.{Regs}
use Rattle.vcs_cpu.specs.declared.halt.Halt.{Halt}
use Rattle.vcs_cpu.specs.Device.{after_loads}
use Rattle.vcs_cpu.specs.Steps.{Step, step_of}
use Rattle.vcs_cpu.specs.Runs.{RunEnd, run_within}
use Rattle.vcs_cpu.specs.Runs as runs
use Rattle.vcs_cpu.proofs.Timed.{step_of-passes}
use Rattle.vcs_tia.specs.declared.chip.Tia.{Tia}
use Rattle.vcs_tia.specs.Tia.{clocks_passed, clocks_owed, wait_cleared, vsync_rose, line_of, clock_of}
use Rattle.vcs_tia.specs.Trace.{after_clocks}
use Rattle.vcs_tia.proofs.Later.{clock-after_clocks}
use Rattle.vcs_tia.proofs.Writes.{clock_of-written_at}
use Rattle.vcs_machine.specs.Bus.{Observed, bus_device, after_time, after_wait}
use Rattle.vcs_machine.specs.Step.{console_step, with_wait}
use Rattle.vcs_machine.specs.Frame.{FrameEnd, end_within, is_frame_over, console_settling}
use Rattle.vcs_machine.specs.Frame as frame
use Rattle.vcs_machine.proofs.Clocks.{clocks-instruction, clocks-after_wait, kept-after_writes, tia-after_loads}

-- ---- the clock of the line stays below 228

pub clock-later : (n : ℕ) (t : Tia) → clock_of t < 228 → clock_of (after_clocks n t) < 228
clock-later n t h = let e = clock-after_clocks n t h in omega (arith, e)

low_unless_over-by : (rose : Bool) (t : Tia) → clock_of t < 228 → (rose || nat_le 320 (line_of t)) ≡ false → clocks_passed t < 320 * 228
low_unless_over-by true t h e = cc
low_unless_over-by false t h e = let line : line_of t < 320 = grind (arith, nat_tests, e) in omega (arith, line, h)

-- a frame that isn't over has come to no line from 320 on
low_unless_over : (t : Tia) → clock_of t < 228 → is_frame_over t ≡ false → clocks_passed t < 320 * 228
low_unless_over t h over = low_unless_over-by (vsync_rose t) t h over

module _ {Seen : Type 0} (observe : List Tia → Seen → Seen) where
  -- an instruction and its wait take six clocks at least
  abbrev Goes : Observed Seen → Observed Seen → Type 0
  Goes o y = (clocks_passed o.board.tia + 6 ≤ clocks_passed y.board.tia) × (clock_of y.board.tia < 228)

  goes : (r : Regs) (o : Observed Seen) (x : Step (Observed Seen)) → clock_of o.board.tia < 228 → step_of (bus_device observe) r o ≡ Ok x → Goes o (after_wait observe x.content)
  goes r o x h is =
      let passes = step_of-passes (bus_device observe) r o x is in
      let least = passes.0 in
      let reads = passes.1.0 in
      let writes = passes.1.1.0 in
      let time = after_time observe x.cycles (3 * x.cycles) o in
      let clocks = clocks-instruction observe x.cycles reads writes o x.content passes.1.1.1 in
      let waits = clocks-after_wait observe x.content in
      let same = ap (λ (y : Observed Seen). clock_of y.board.tia) passes.1.1.1
      ∙ kept-after_writes clock_of clock_of-written_at observe writes (after_loads (bus_device observe) time reads) ∙ ap clock_of (tia-after_loads observe reads time) in
      let later = clock-later (3 * x.cycles) o.board.tia h in
      let before : clock_of x.content.board.tia < 228 = omega (arith, same, later) in
      (omega (arith, least, clocks, waits), clock-later (clocks_owed x.content.board.tia) (wait_cleared x.content.board.tia) before)

  abbrev Ends : ℕ → Regs → Observed Seen → Type 0
  Ends n r o = (e : RunEnd (Observed Seen)) × (run_within (bus_device observe) (console_settling observe) n r o ≡ Some e)

  -- the end of a run whose next instruction leaves a content
  abbrev EndsFrom : ℕ → Regs → Observed Seen → Type 0
  EndsFrom n r y = (e : RunEnd (Observed Seen)) × (runs.over_or_next (bus_device observe) (console_settling observe) r y (run_within (bus_device observe) (console_settling observe) n) ≡ Some e)

  over_or_on : (n : ℕ) (r : Regs) (y : Observed Seen) (over : Bool) → is_frame_over y.board.tia ≡ over → (over ≡ false → Ends n r y) → EndsFrom n r y
  over_or_on n r y true h on = (_, ap (λ (b : Bool). if b then Some (record { regs = r; content = y; halt = None }) else run_within (bus_device observe) (console_settling observe) n r y) h)
  over_or_on n r y false h on =
      ((on refl).0, ap (λ (b : Bool). if b then Some (record { regs = r; content = y; halt = None }) else run_within (bus_device observe) (console_settling observe) n r y) h ∙ (on refl).1)

  ends_by : (n : ℕ) (r : Regs) (o : Observed Seen) (x : Result (Step (Observed Seen)) Halt) → step_of (bus_device observe) r o ≡ x → clock_of o.board.tia < 228 →
      320 * 228 ≤ clocks_passed o.board.tia + 6 * (n + 1) →
      ((s : Regs) (y : Observed Seen) → clock_of y.board.tia < 228 → clocks_passed y.board.tia < 320 * 228 → 320 * 228 ≤ clocks_passed y.board.tia + 6 * n → Ends n s y) →
      (e : RunEnd (Observed Seen)) × (runs.end_or_next (bus_device observe) (console_settling observe) x r o (run_within (bus_device observe) (console_settling observe) n) ≡ Some e)
  ends_by n r o (Err halt) is h far on = (_, refl)
  ends_by n r o (Ok x) is h far on =
      let y = after_wait observe x.content in
      let went = goes r o x h is in
      let clocks = went.0 in
      over_or_on n x.regs y (is_frame_over y.board.tia) refl (λ over. on x.regs y went.1 (low_unless_over y.board.tia went.1 over) (omega (arith, far, clocks)))

  -- so a run ends within as many instructions as clocks are left for
  pub run_ends : (n : ℕ) (r : Regs) (o : Observed Seen) → clock_of o.board.tia < 228 → clocks_passed o.board.tia < 320 * 228 → 320 * 228 ≤ clocks_passed o.board.tia + 6 * n → Ends n r o
  unfolding run_within
  run_ends zero r o h low far = absurd (omega (arith, low, far))
  run_ends (suc n) r o h low far = ends_by n r o (step_of (bus_device observe) r o) refl h (omega (arith, far)) (λ s y. run_ends n s y)

  -- ---- a frame's end is such a run's

  abbrev pub as_frame_end : Option (RunEnd (Observed Seen)) → Option (FrameEnd Seen)
  as_frame_end None = None
  as_frame_end (Some e) = Some (record { regs = e.regs; observed = e.content; halt = e.halt })

  if_frame_end : (over : Bool) (e : RunEnd (Observed Seen)) (p : Option (RunEnd (Observed Seen))) (q : Option (FrameEnd Seen)) → q ≡ as_frame_end p →
      (if over then as_frame_end (Some e) else q) ≡ as_frame_end (if over then Some e else p)
  if_frame_end true e p q h = refl
  if_frame_end false e p q h = h

  end_or_next-run : (n : ℕ) (x : Result (Step (Observed Seen)) Halt) (r : Regs) (o : Observed Seen) →
      ((s : Regs) (y : Observed Seen) → end_within observe n s y ≡ as_frame_end (run_within (bus_device observe) (console_settling observe) n s y)) →
      frame.end_or_next (with_wait observe x) r o (λ (step : Step (Observed Seen)). end_within observe n step.regs step.content)
      ≡ as_frame_end (runs.end_or_next (bus_device observe) (console_settling observe) x r o (run_within (bus_device observe) (console_settling observe) n))
  end_or_next-run n (Err halt) r o h = refl
  end_or_next-run n (Ok x) r o h =
      let y = after_wait observe x.content in
      if_frame_end (is_frame_over y.board.tia) (record { regs = x.regs; content = y; halt = None }) (run_within (bus_device observe) (console_settling observe) n x.regs y) (end_within observe n x.regs y) (h x.regs y)

  pub end_within-run : (n : ℕ) (r : Regs) (o : Observed Seen) → end_within observe n r o ≡ as_frame_end (run_within (bus_device observe) (console_settling observe) n r o)
  unfolding end_within run_within console_step
  end_within-run zero r o = refl
  end_within-run (suc n) r o = end_or_next-run n (step_of (bus_device observe) r o) r o (λ s y. end_within-run n s y)
