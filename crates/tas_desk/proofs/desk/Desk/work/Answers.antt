use Rattle.std.proofs.lemmas.Grind.{common_steps}
use Rattle.std.proofs.Common.{refl, arith}
use Rattle.tas_desk.proofs.SeatLemmas.{looked_twice}
use Rattle.tas_desk.proofs.WorkLemmas.{keeps_before, still_current, jobs_none, jobs_next, jobs_all, jobs_before}
use Rattle.tas_desk.proofs.desk.Desk.work.Goals as goal

pub loop-near-preserved : goal.loop-near-preserved
loop-near-preserved g c = record {
  seen = looked_twice _ _ _ c.loop-near.invariant.seen c.work_one.ensures.seat;
  jobs = omega (arith, c.and-done.ensures.jobs, c.loop-near.invariant.jobs);
  tally = c.and-done.ensures.tally;
  each = jobs_next _ _ _ c.loop-near.done c.and-done.result c.args.targets.now c.loop-near.near-index _ c.in-Ok.gained c.loop-near-test.true refl c.loop-near.invariant.each c.in-Ok.ensures.done c.and-done.ensures.exact;
  current = still_current _ _ _ c.loop-near.done c.and-done.result c.in-Ok.gained c.loop-near.invariant.seen.seen.begins c.work_one.ensures.seat.seen.begins c.loop-near.invariant.current c.in-Ok.ensures.current c.and-done.ensures.exact;
}

pub returns-in-Err-clause-current : goal.returns-in-Err-clause-current
returns-in-Err-clause-current g c = λ keeps. c.loop-near.invariant.current (keeps_before _ _ _ c.work_one.ensures.seat.seen.begins keeps)

pub returns-in-Err-clause-seat : goal.returns-in-Err-clause-seat
returns-in-Err-clause-seat g c = grind (arith, common_steps)

pub returns-in-Err-clause-jobs : goal.returns-in-Err-clause-jobs
returns-in-Err-clause-jobs g c =
    jobs_before _ _ _ c.loop-near.done c.args.targets.now c.loop-near.near-index c.loop-near.invariant.jobs c.loop-near.invariant.each c.work_one.ensures.seat.seen.begins

pub returns-clause-jobs : goal.returns-clause-jobs
returns-clause-jobs g c = jobs_all _ _ c.loop-near.done c.args.targets.now c.loop-near.near-index c.loop-near-test.false c.loop-near.invariant.each

pub loop-near-init : goal.loop-near-init
loop-near-init g c = record {
  seen = grind (arith, common_steps);
  jobs = refl;
  tally = grind (arith, common_steps);
  each = jobs_none c.args.seat.now.front;
  current = λ keeps. refl;
}
