use Rattle.std.proofs.Common.{◌∙◌, ap, sym, refl}
use Rattle.vcs_tia.specs.declared.chip.Tia.{Tia}
use Rattle.vcs_tia.specs.Tia.{vsync_rose}
use Rattle.vcs_machine.specs.Bus.{nothing_seen}
use Rattle.vcs_machine.specs.Frame.{end_within}
use Rattle.vcs_machine.specs.Lag.{is_ignored_within}
use Rattle.vcs_machine.specs.Machine.{Machine}
use Rattle.vcs_machine.proofs.LagFrames.{lag_law}
use Rattle.vcs_machine.proofs.Notings.{lag-halted, lag-unhalted}
use Rattle.vcs_machine.proofs.Playing.{at_frame_start, frame-halted, frame-ended}
use Rattle.vcs_machine.proofs.lag.play_for_lag.Goals as goal

pub returns-in-Some-clause-state : goal.returns-in-Some-clause-state
returns-in-Some-clause-state g c =
    frame-halted c.args.cart.now c.args.state.now c.args.input c.in-Some._halt (sym (ap (λ (m : Machine). m.halt) c.state.view_is) ∙ c.in-Some.is)

pub returns-in-Some-clause-lag : goal.returns-in-Some-clause-lag
returns-in-Some-clause-lag g c =
    sym (lag-halted c.args.cart.now c.args.state.now c.args.input c.in-Some._halt (sym (ap (λ (m : Machine). m.halt) c.state.view_is) ∙ c.in-Some.is))

pub returns-in-Some-clause-law : goal.returns-in-Some-clause-law
returns-in-Some-clause-law g c =
    λ is other. lag_law c.args.cart.now c.args.state.now c.args.input other
    (lag-halted c.args.cart.now c.args.state.now c.args.input c.in-Some._halt (sym (ap (λ (m : Machine). m.halt) c.state.view_is) ∙ c.in-Some.is))

pub returns-clause-state : goal.returns-clause-state
returns-clause-state g c =
    let run = at_frame_start (end_within nothing_seen 12160) c.args.cart.now _ c.args.state.now _ c.args.input _ _ _ tt _ c.state.view_is c.bytes.ensures.value c.pins.ensures c.start_frame.ensures refl c.run_chips_noting-halt.ensures.ended in
    ap (λ (t : Tia). record { regs = c.run_chips_noting-halt.new.regs; riot = c.run_chips_noting-halt.new.riot; tia = t; halt = c.run_chips_noting-halt.result.0 }) c.end_frame.ensures
    ∙ frame-ended nothing_seen (λ s. refl) (λ xs ys s. refl) c.args.cart.now c.args.state.now c.args.input tt _ (sym (ap (λ (m : Machine). m.halt) c.state.view_is) ∙ c.in_default.is) run

pub returns-clause-lag : goal.returns-clause-lag
returns-clause-lag g c =
    sym (lag-unhalted c.args.cart.now c.args.state.now c.args.input (sym (ap (λ (m : Machine). m.halt) c.state.view_is) ∙ c.in_default.is)
    ∙ at_frame_start (is_ignored_within nothing_seen 12160) c.args.cart.now _ c.args.state.now _ c.args.input _ _ _ tt _ c.state.view_is c.bytes.ensures.value c.pins.ensures c.start_frame.ensures refl (sym c.run_chips_noting-halt.ensures.ignored))

pub returns-clause-law : goal.returns-clause-law
returns-clause-law g c =
    λ is other. lag_law c.args.cart.now c.args.state.now c.args.input other
    (lag-unhalted c.args.cart.now c.args.state.now c.args.input (sym (ap (λ (m : Machine). m.halt) c.state.view_is) ∙ c.in_default.is)
    ∙ at_frame_start (is_ignored_within nothing_seen 12160) c.args.cart.now _ c.args.state.now _ c.args.input _ _ _ tt _ c.state.view_is c.bytes.ensures.value c.pins.ensures c.start_frame.ensures refl (sym c.run_chips_noting-halt.ensures.ignored) ∙ is)

pub run_chips_noting-halt-requires-clause-begun : goal.run_chips_noting-halt-requires-clause-begun
run_chips_noting-halt-requires-clause-begun g c = ap (λ (t : Tia). vsync_rose t) c.start_frame.ensures
