use Rattle.std.proofs.Common.{◌-◌, ◌/◌, ◌≤◌, arith}
use Rattle.vcs_riot.proofs.TimerLemmas.{at_least_intervals}
use Rattle.vcs_machine.proofs.polls.polls_within.Goals as goal

pub returns-clause-reads : goal.returns-clause-reads
returns-clause-reads c = λ i h.
    let a = c.args.to_wait in
    let p = c.args.period in
    let some = c.if-to_wait-le4.false in
    let few : i ≤ (a - 5) / p = omega (arith, h) in
    let most = at_least_intervals (a - 5) i p few in
    omega (arith, most, some)

pub returns-clause-fit : goal.returns-clause-fit
returns-clause-fit c =
    at_least_intervals c.args.cycles _ c.args.period (omega arith)
