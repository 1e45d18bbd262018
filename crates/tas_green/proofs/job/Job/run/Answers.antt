use Rattle.std.proofs.Common.{arith}
use Rattle.std.proofs.lemmas.Grind.{common_steps}
use Rattle.tas_green.proofs.JobLemmas.{ran_right}
use Rattle.tas_green.proofs.job.Job.run.Goals as goal

pub returns-clause-states : goal.returns-clause-states
returns-clause-states g c = λ f. rw (← c.self.view_is) (rw (c.self.invariant.none, c.as_slice.ensures, c.as_slice-2.ensures) at (c.pass_span.ensures.states f))

pub invariant_of-result : goal.invariant_of-result
invariant_of-result g c =
    ran_right c.self.inside.cart c.self.inside.inputs c.self.inside.stride c.self.inside.start.frame c.self.inside.states.items c.pass_span.new.states.items c.self.invariant.none c.pass_span.ensures.rising
    (rw (c.as_slice.ensures, c.as_slice-2.ensures) at c.pass_span.ensures.states)

pub pass_span-requires-clause-stride : goal.pass_span-requires-clause-stride
pass_span-requires-clause-stride g c = c.self.invariant.positive

pub pass_span-requires-clause-order : goal.pass_span-requires-clause-order
pass_span-requires-clause-order g c = rw c.as_slice.ensures c.self.invariant.within

pub pass_span-requires-clause-start : goal.pass_span-requires-clause-start
pass_span-requires-clause-start g c = rw c.as_slice-2.ensures c.self.invariant.state

pub pass_span-requires-clause-rising : goal.pass_span-requires-clause-rising
pass_span-requires-clause-rising g c = rw c.self.invariant.none tt

pub pass_span-requires-clause-room : goal.pass_span-requires-clause-room
pass_span-requires-clause-room g c = grind (arith, common_steps)
