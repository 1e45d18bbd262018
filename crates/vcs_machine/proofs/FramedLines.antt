-- The lines of steps that go on from frame to frame are the lines of the steps alone.
use Rattle.std.proofs.Common.{◌≡◌, ℕ, zero, suc, List, [], ◌++◌, ◌∙◌, ap, refl, Result, Ok, Err}
use Rattle.vcs_cpu.specs.Steps.{Step}
use Rattle.vcs_cpu.specs.Lines.{line_of}
use Rattle.vcs_cpu.specs.declared.regs.Regs.{Regs}
use Rattle.vcs_cpu.specs.declared.halt.Halt.{Halt}
use Rattle.vcs_machine.specs.Bus.{Observed, board_byte_at, nothing_seen}
use Rattle.vcs_machine.specs.Step.{console_step}
use Rattle.vcs_machine.specs.Inside.TraceFrames.{traced_step, step_into_next_frame, board_into_next_frame}
use Rattle.vcs_machine.specs.TraceText.{lines_from, line_then, text_of_halt, trace_text, board_at_power_on}
use Rattle.vcs_machine.specs.Machine.{regs_at_power_on, power_on}
use Rattle.vcs_machine.proofs.AlikeSteps.{EndAlike}
use Rattle.vcs_machine.proofs.AlikeBoards.{BoardsAlike, byte-alike, console_step-alike, next_frame-alike}

-- a line for each of n steps from frame to frame, or up to a halt
unfoldable pub framed_lines_from : ℕ → Regs → Observed (Unit {0}) → List ℕ
framed_lines_from zero regs o = []
framed_lines_from (suc n) regs o =
    line_then regs.pc (board_byte_at o.board regs.pc) (traced_step regs o) (λ step. framed_lines_from n step.regs step.content)

-- two steps from boards that are alike, the first of them with the next frame's start, where the lines after them are the same
line_then-alike : (framed lines : Regs → Observed (Unit {0}) → List ℕ) →
    ((r : Regs) (o p : Observed (Unit {0})) → BoardsAlike o p → framed r o ≡ lines r p) →
    (at opcode : ℕ) (a b : Result (Step (Observed (Unit {0}))) Halt) → EndAlike BoardsAlike a b →
    line_then at opcode (step_into_next_frame a) (λ step. framed step.regs step.content) ≡ line_then at opcode b (λ step. lines step.regs step.content)
line_then-alike framed lines rest at opcode (Ok a) (Ok b) h =
    ap (λ xs. line_of at opcode a.regs a.cycles ++ xs) (rest a.regs (board_into_next_frame a.content) b.content (next_frame-alike a.content b.content h.content))
    ∙ ap (λ (r : Regs). line_of at opcode r a.cycles ++ lines r b.content) h.regs
    ∙ ap (λ n. line_of at opcode b.regs n ++ lines b.regs b.content) h.cycles
line_then-alike framed lines rest at opcode (Ok a) (Err halt) h = absurd h
line_then-alike framed lines rest at opcode (Err halt) (Ok b) h = absurd h
line_then-alike framed lines rest at opcode (Err halt) (Err other) h = ap text_of_halt h

-- steps see no frames: from boards that are alike the lines are the same
pub lines-alike : (n : ℕ) (r : Regs) (o p : Observed (Unit {0})) → BoardsAlike o p → framed_lines_from n r o ≡ lines_from n r p
unfolding framed_lines_from lines_from traced_step
lines-alike zero r o p h = refl
lines-alike (suc n) r o p h =
    line_then-alike (framed_lines_from n) (lines_from n) (lines-alike n) r.pc (board_byte_at o.board r.pc)
    (console_step nothing_seen r o) (console_step nothing_seen r p) (console_step-alike r o p h)
    ∙ ap (λ opcode. line_then r.pc opcode (console_step nothing_seen r p) (λ (step : Step (Observed (Unit {0}))). lines_from n step.regs step.content)) (byte-alike r.pc o p h)

-- the text of a trace is that of steps from frame to frame
pub trace_text-framed : (rom : List ℕ) (n : ℕ) → framed_lines_from n (power_on rom).regs (board_at_power_on rom) ≡ trace_text rom n
unfolding trace_text power_on
trace_text-framed rom n =
    lines-alike n (regs_at_power_on rom) (board_at_power_on rom) (board_at_power_on rom) (record { same = refl; none_pressed = refl })
