-- Runs that stop before the first step that doesn't ignore the input.
use Rattle.std.proofs.Common.{◌≡◌, ℕ, zero, suc, ◌<◌, Bool, true, false, not, ◌&&◌, ◌||◌, if◌then◌else◌, List, Option, Some, None, is_some, unwrap_or, Result, Ok, Err, ◌∙◌, ap, sym, refl, subst, arith}
use Rattle.std.specs.List.{list_any}
use Rattle.std.proofs.lemmas.Bool.{false≢true}
use Rattle.vcs_cpu.specs.Reads.{addresses_read}
use Rattle.vcs_cpu.specs.Runs.{RunEnd, run_within}
use Rattle.vcs_cpu.specs.Runs as runs
use Rattle.vcs_cpu.specs.Steps.{Step, step_of}
use Rattle.vcs_cpu.specs.declared.regs.Regs.{Regs}
use Rattle.vcs_cpu.specs.declared.halt.Halt.{Halt}
use Rattle.vcs_tia.specs.declared.chip.Tia.{Tia}
use Rattle.vcs_tia.specs.Tia.{latches_presses, clocks_passed, clock_of}
use Rattle.vcs_inputs.specs.declared.input.Input.{Input}
use Rattle.vcs_machine.specs.Bus.{Observed, bus_device, board_byte_at, after_wait, nothing_seen}
use Rattle.vcs_machine.specs.Step.{console_step, with_wait}
use Rattle.vcs_machine.specs.Frame.{FrameEnd, EndsAt, end_within, is_frame_over, console_settling}
use Rattle.vcs_machine.specs.Frame as frame
use Rattle.vcs_machine.specs.Machine.{Machine, frame_start, unless_halted}
use Rattle.vcs_machine.specs.Lag.{shows_input, last_or_next, is_ignored_within, is_lag_frame}
use Rattle.vcs_machine.specs.Inside.Noting.{watching, Says}
use Rattle.vcs_machine.proofs.Endings.{as_frame_end, end_within-run, run_ends}
use Rattle.vcs_machine.proofs.Frames.{one_end}

pub second_of : (u v : Bool) → (u || v) ≡ false → v ≡ false
second_of true v h = cc
second_of false v h = h

module _ {Seen : Type 0} (observe : List Tia → Seen → Seen) where
  -- ---- what the run's end says

  -- it is the frame's end: a halt, or a step after which the frame is over
  abbrev is_frame_end : RunEnd (Observed Seen) → Bool
  is_frame_end e = is_some e.halt || is_frame_over e.content.board.tia

  -- after a step
  by_over : (over : Bool) (q : Regs) (y : Observed Seen) (e : RunEnd (Observed Seen)) (ends : Option (FrameEnd Seen)) (run : Option (RunEnd (Observed Seen))) (ignored : Bool) →
      is_frame_over y.board.tia ≡ over → (over ≡ false → run ≡ Some e → Says observe ends ignored (is_frame_end e) e) → (if over then Some (record { regs = q; content = y; halt = None }) else run) ≡ Some e →
      Says observe (if over then Some (record { regs = q; observed = y; halt = None }) else ends) (if over then not (latches_presses y.board.tia) else ignored) (is_frame_end e) e
  by_over true q y e ends run ignored h on is =
      subst (λ (x : RunEnd (Observed Seen)). Says observe (Some (record { regs = q; observed = y; halt = None })) (not (latches_presses y.board.tia)) (is_frame_end x) x) (ap (λ (p : Option (RunEnd (Observed Seen))). unwrap_or p e) is)
      (record { over = λ t. (refl, refl); stopped = λ f. absurd (false≢true (sym f ∙ h)) })
  by_over false q y e ends run ignored h on is = on refl is

  -- a halt, or a step
  by_step : (x : Result (Step (Observed Seen)) Halt) (n : ℕ) (r : Regs) (o : Observed Seen) (e : RunEnd (Observed Seen)) →
      ((q : Regs) (y : Observed Seen) → is_frame_over y.board.tia ≡ false → run_within (bus_device observe) (watching observe) n q y ≡ Some e →
      Says observe (end_within observe n q y) (is_ignored_within observe n q y) (is_frame_end e) e) →
      runs.end_or_next (bus_device observe) (watching observe) x r o (run_within (bus_device observe) (watching observe) n) ≡ Some e →
      Says observe (frame.end_or_next (with_wait observe x) r o (λ (step : Step (Observed Seen)). end_within observe n step.regs step.content))
      (last_or_next o (with_wait observe x) (λ (step : Step (Observed Seen)). is_ignored_within observe n step.regs step.content)) (is_frame_end e) e
  by_step (Err halt) n r o e later is =
      subst (λ (x : RunEnd (Observed Seen)). Says observe (Some (record { regs = r; observed = o; halt = Some halt })) (not (latches_presses o.board.tia)) (is_frame_end x) x) (ap (λ (p : Option (RunEnd (Observed Seen))). unwrap_or p e) is)
      (record { over = λ t. (refl, refl); stopped = λ f. absurd (false≢true (sym f)) })
  by_step (Ok x) n r o e later is =
      let y = after_wait observe x.content in
      by_over (is_frame_over y.board.tia) x.regs y e (end_within observe n x.regs y) (run_within (bus_device observe) (watching observe) n x.regs y) (is_ignored_within observe n x.regs y)
      refl (λ h there. later x.regs y h there) is

  -- a stop
  by_stop : (stop : Bool) (r : Regs) (o : Observed Seen) (e : RunEnd (Observed Seen)) (run : Option (RunEnd (Observed Seen))) (ends : Option (FrameEnd Seen)) (ignored : Bool) →
      is_frame_over o.board.tia ≡ false → ((f : FrameEnd Seen) → ends ≡ Some f → EndsAt observe r o f) → (run ≡ Some e → Says observe ends ignored (is_frame_end e) e) →
      (if stop then Some (record { regs = r; content = o; halt = None }) else run) ≡ Some e → Says observe ends (not stop && ignored) (is_frame_end e) e
  by_stop true r o e run ends ignored low here on is =
      subst (λ (x : RunEnd (Observed Seen)). Says observe ends false (is_frame_end x) x) (ap (λ (p : Option (RunEnd (Observed Seen))). unwrap_or p e) is)
      (record { over = λ t. absurd (false≢true (sym low ∙ t)); stopped = λ f. (refl, here) })
  by_stop false r o e run ends ignored low here on is = on is

  pub says : (n : ℕ) (r : Regs) (o : Observed Seen) (e : RunEnd (Observed Seen)) → is_frame_over o.board.tia ≡ false → run_within (bus_device observe) (watching observe) n r o ≡ Some e →
      Says observe (end_within observe n r o) (is_ignored_within observe n r o) (is_frame_end e) e
  unfolding run_within end_within is_ignored_within console_step
  says zero r o e low is = cc
  says (suc n) r o e low is =
      by_stop (list_any (shows_input o.board) (addresses_read r (board_byte_at o.board))) r o e
      (runs.end_or_next (bus_device observe) (watching observe) (step_of (bus_device observe) r o) r o (run_within (bus_device observe) (watching observe) n))
      (frame.end_or_next (with_wait observe (step_of (bus_device observe) r o)) r o (λ (step : Step (Observed Seen)). end_within observe n step.regs step.content))
      (last_or_next o (with_wait observe (step_of (bus_device observe) r o)) (λ (step : Step (Observed Seen)). is_ignored_within observe n step.regs step.content))
      low (λ f h. (suc n, h)) (λ run. by_step (step_of (bus_device observe) r o) n r o e (λ q y h there. says n q y e h there) run) is

  -- ---- the run ends, as the frame does

  abbrev Some_end : Option (RunEnd (Observed Seen)) → Type 0
  Some_end run = (e : RunEnd (Observed Seen)) × (run ≡ Some e)

  ends_by_over : (over : Bool) (z e : RunEnd (Observed Seen)) (run watched : Option (RunEnd (Observed Seen))) → (run ≡ Some e → Some_end watched) →
      (if over then Some z else run) ≡ Some e → Some_end (if over then Some z else watched)
  ends_by_over true z e run watched on is = (z, refl)
  ends_by_over false z e run watched on is = on is

  ends_by_step : (x : Result (Step (Observed Seen)) Halt) (n : ℕ) (r : Regs) (o : Observed Seen) (e : RunEnd (Observed Seen)) →
      ((q : Regs) (y : Observed Seen) → run_within (bus_device observe) (console_settling observe) n q y ≡ Some e → Some_end (run_within (bus_device observe) (watching observe) n q y)) →
      runs.end_or_next (bus_device observe) (console_settling observe) x r o (run_within (bus_device observe) (console_settling observe) n) ≡ Some e →
      Some_end (runs.end_or_next (bus_device observe) (watching observe) x r o (run_within (bus_device observe) (watching observe) n))
  ends_by_step (Err halt) n r o e later is = (_, refl)
  ends_by_step (Ok x) n r o e later is =
      let y = after_wait observe x.content in
      ends_by_over (is_frame_over y.board.tia) (record { regs = x.regs; content = y; halt = None }) e (run_within (bus_device observe) (console_settling observe) n x.regs y)
      (run_within (bus_device observe) (watching observe) n x.regs y) (later x.regs y) is

  ends_by_stop : (stop : Bool) (z : RunEnd (Observed Seen)) (watched : Option (RunEnd (Observed Seen))) → Some_end watched → Some_end (if stop then Some z else watched)
  ends_by_stop true z watched end = (z, refl)
  ends_by_stop false z watched end = end

  pub watching_ends : (n : ℕ) (r : Regs) (o : Observed Seen) (e : RunEnd (Observed Seen)) → run_within (bus_device observe) (console_settling observe) n r o ≡ Some e →
      Some_end (run_within (bus_device observe) (watching observe) n r o)
  unfolding run_within
  watching_ends zero r o e is = cc
  watching_ends (suc n) r o e is =
      ends_by_stop (list_any (shows_input o.board) (addresses_read r (board_byte_at o.board))) (record { regs = r; content = o; halt = None })
      (runs.end_or_next (bus_device observe) (watching observe) (step_of (bus_device observe) r o) r o (run_within (bus_device observe) (watching observe) n))
      (ends_by_step (step_of (bus_device observe) r o) n r o e (λ q y h. watching_ends n q y e h) is)

  -- the same where the chips have caught up
  pub says_then : (n : ℕ) (r q : Regs) (o p later : Observed Seen) (halt : Option Halt) (ended : Bool) → is_frame_over o.board.tia ≡ false →
      run_within (bus_device observe) (watching observe) n r o ≡ Some (record { regs = q; content = p; halt = halt }) → later ≡ p → ended ≡ (is_some halt || is_frame_over p.board.tia) →
      Says observe (end_within observe n r o) (is_ignored_within observe n r o) ended (record { regs = q; content = later; halt = halt })
  says_then n r q o p later halt ended low is same end =
      subst (λ (x : Observed Seen). Says observe (end_within observe n r o) (is_ignored_within observe n r o) ended (record { regs = q; content = x; halt = halt })) (sym same)
      (subst (λ (b : Bool). Says observe (end_within observe n r o) (is_ignored_within observe n r o) b (record { regs = q; content = p; halt = halt })) (sym end)
      (says n r o (record { regs = q; content = p; halt = halt }) low is))

  -- the same of equal contents
  pub says_same : (n : ℕ) (r q : Regs) (o first p last : Observed Seen) (halt : Option Halt) (ended : Bool) → o ≡ first → p ≡ last →
      Says observe (end_within observe n r o) (is_ignored_within observe n r o) ended (record { regs = q; content = p; halt = halt }) →
      Says observe (end_within observe n r first) (is_ignored_within observe n r first) ended (record { regs = q; content = last; halt = halt })
  says_same n r q o first p last halt ended same later said =
      subst (λ (x : Observed Seen). Says observe (end_within observe n r first) (is_ignored_within observe n r first) ended (record { regs = q; content = x; halt = halt })) later
      (subst (λ (x : Observed Seen). Says observe (end_within observe n r x) (is_ignored_within observe n r x) ended (record { regs = q; content = p; halt = halt })) same said)

  -- ---- the rest of a frame whose run stopped: it ends the frame, as that has one end
  pub rest_ends : (r : Regs) (o : Observed Seen) (ended : Bool) (e : RunEnd (Observed Seen)) (f : FrameEnd Seen) → Says observe (end_within observe 12160 r o) (is_ignored_within observe 12160 r o) ended e →
      ended ≡ false → clock_of o.board.tia < 228 → clocks_passed o.board.tia < 228 →
      end_within observe 12160 e.regs e.content ≡ Some f → end_within observe 12160 r o ≡ Some f
  rest_ends r o ended e f says stopped clock low rest =
      let end = run_ends observe 12160 r o clock (omega (arith, low)) (omega arith) in
      let whole = end_within-run observe 12160 r o ∙ ap (as_frame_end observe) end.1 in
      let there = (says.stopped stopped).1 _ whole in
      whole ∙ ap (λ (g : FrameEnd Seen). Some g) (one_end observe there.0 12160 e.regs e.content _ f there.1 rest)

-- ---- the frame

pub lag-halted : (rom : List ℕ) (m : Machine) (input : Input) (halt : Halt) → m.halt ≡ Some halt → is_lag_frame rom m input ≡ true
unfolding is_lag_frame
lag-halted rom m input halt h = ap (λ (o : Option Halt). unless_halted o (is_ignored_within nothing_seen 12160 m.regs (frame_start rom m input tt)) true) h

pub lag-unhalted : (rom : List ℕ) (m : Machine) (input : Input) → m.halt ≡ None → is_lag_frame rom m input ≡ is_ignored_within nothing_seen 12160 m.regs (frame_start rom m input tt)
unfolding is_lag_frame
lag-unhalted rom m input h = ap (λ (o : Option Halt). unless_halted o (is_ignored_within nothing_seen 12160 m.regs (frame_start rom m input tt)) true) h
