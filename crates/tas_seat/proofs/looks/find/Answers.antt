use Rattle.std.proofs.Common.{◌≡◌, ◌≤◌, ◌∙◌, List, ℕ, Some, length, ap, sym}
use Rattle.std.proofs.lemmas.Result.{IfOk-weaker}
use Rattle.vcs_machine.specs.declared.state.State.{State}
use Rattle.tas_green.specs.Run.{state_after}
use Rattle.tas_language.specs.Answers.{ram_text}
use Rattle.tas_seat.specs.Turns.{standing_at}
use Rattle.tas_seat.proofs.ReachLemmas.{ram_there}
use Rattle.tas_seat.proofs.looks.find.Goals as goal

pub returns-in-Ram : goal.returns-in-Ram
returns-in-Ram g c =
    let k = c.in-Ram.frames in
    let can : (k ≤ length c.args.movie.now.inputs) × (c.args.begin ≡ state_after c.args.movie.now k) = rw c.in-Ram.is at c.requires in
    rw c.in-Ram.is
    (IfOk-weaker c.ram_answer.result _ _
    (λ bytes is.
    ram_there (standing_at c.args.movie.now c.args.at) k can.0
    ∙ ap (λ (l : List ℕ). Some l) (sym (is ∙ ap (ram_text c.args.at k) (c.ram.ensures ∙ ap (λ (s : State). s.riot.ram) can.1)))) c.ram_answer.ensures)

pub find_lag-requires-clause-order : goal.find_lag-requires-clause-order
find_lag-requires-clause-order g c = (rw c.in-Lag.is at c.requires).0

pub find_lag-requires-clause-within : goal.find_lag-requires-clause-within
find_lag-requires-clause-within g c = (rw c.in-Lag.is at c.requires).1

pub find_lag-requires-clause-begin : goal.find_lag-requires-clause-begin
find_lag-requires-clause-begin g c = (rw c.in-Lag.is at c.requires).2

pub returns-in-Lag : goal.returns-in-Lag
returns-in-Lag g c = rw c.in-Lag.is c.find_lag.ensures
