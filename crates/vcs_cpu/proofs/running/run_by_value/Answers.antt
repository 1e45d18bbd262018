use Rattle.vcs_cpu.proofs.LoopLemmas.{comes_on, comes_nearer, comes_to_end}
use Rattle.vcs_cpu.proofs.running.run_by_value.Goals as goal

pub returns-then-perform_and_settle : goal.returns-then-perform_and_settle
returns-then-perform_and_settle g c = comes_to_end c.requires.1.0 c.requires.1.1.1 c.loop-regs.invariant c.perform_and_settle.ensures c.if-perform_and_settle.true

pub loop-regs-preserved-else-perform_and_settle : goal.loop-regs-preserved-else-perform_and_settle
loop-regs-preserved-else-perform_and_settle g c = comes_on c.requires.1.0 c.requires.1.1.1 c.loop-regs.invariant c.perform_and_settle.ensures c.if-perform_and_settle.false

pub loop-regs-smaller-else-perform_and_settle : goal.loop-regs-smaller-else-perform_and_settle
loop-regs-smaller-else-perform_and_settle g c = comes_nearer c.requires.1.0 c.requires.1.1.1 c.loop-regs.invariant c.perform_and_settle.ensures c.if-perform_and_settle.false

pub returns-then-perform_and_settle-2 : goal.returns-then-perform_and_settle-2
returns-then-perform_and_settle-2 g c = comes_to_end c.requires.1.0 c.requires.1.1.1 c.loop-regs.invariant c.perform_and_settle-in-6.ensures c.if-perform_and_settle-2.true

pub loop-regs-preserved-else-perform_and_settle-2 : goal.loop-regs-preserved-else-perform_and_settle-2
loop-regs-preserved-else-perform_and_settle-2 g c = comes_on c.requires.1.0 c.requires.1.1.1 c.loop-regs.invariant c.perform_and_settle-in-6.ensures c.if-perform_and_settle-2.false

pub loop-regs-smaller-else-perform_and_settle-2 : goal.loop-regs-smaller-else-perform_and_settle-2
loop-regs-smaller-else-perform_and_settle-2 g c = comes_nearer c.requires.1.0 c.requires.1.1.1 c.loop-regs.invariant c.perform_and_settle-in-6.ensures c.if-perform_and_settle-2.false

pub returns-then-perform_and_settle-3 : goal.returns-then-perform_and_settle-3
returns-then-perform_and_settle-3 g c = comes_to_end c.requires.1.0 c.requires.1.1.1 c.loop-regs.invariant c.perform_and_settle-in-9.ensures c.if-perform_and_settle-3.true

pub loop-regs-preserved-else-perform_and_settle-3 : goal.loop-regs-preserved-else-perform_and_settle-3
loop-regs-preserved-else-perform_and_settle-3 g c = comes_on c.requires.1.0 c.requires.1.1.1 c.loop-regs.invariant c.perform_and_settle-in-9.ensures c.if-perform_and_settle-3.false

pub loop-regs-smaller-else-perform_and_settle-3 : goal.loop-regs-smaller-else-perform_and_settle-3
loop-regs-smaller-else-perform_and_settle-3 g c = comes_nearer c.requires.1.0 c.requires.1.1.1 c.loop-regs.invariant c.perform_and_settle-in-9.ensures c.if-perform_and_settle-3.false

pub returns-then-perform_and_settle-4 : goal.returns-then-perform_and_settle-4
returns-then-perform_and_settle-4 g c = comes_to_end c.requires.1.0 c.requires.1.1.1 c.loop-regs.invariant c.perform_and_settle-in-10.ensures c.if-perform_and_settle-4.true

pub loop-regs-preserved-else-perform_and_settle-4 : goal.loop-regs-preserved-else-perform_and_settle-4
loop-regs-preserved-else-perform_and_settle-4 g c = comes_on c.requires.1.0 c.requires.1.1.1 c.loop-regs.invariant c.perform_and_settle-in-10.ensures c.if-perform_and_settle-4.false

pub loop-regs-smaller-else-perform_and_settle-4 : goal.loop-regs-smaller-else-perform_and_settle-4
loop-regs-smaller-else-perform_and_settle-4 g c = comes_nearer c.requires.1.0 c.requires.1.1.1 c.loop-regs.invariant c.perform_and_settle-in-10.ensures c.if-perform_and_settle-4.false

pub returns-then-perform_and_settle-5 : goal.returns-then-perform_and_settle-5
returns-then-perform_and_settle-5 g c = comes_to_end c.requires.1.0 c.requires.1.1.1 c.loop-regs.invariant c.perform_and_settle-in-13.ensures c.if-perform_and_settle-5.true

pub loop-regs-preserved-else-perform_and_settle-5 : goal.loop-regs-preserved-else-perform_and_settle-5
loop-regs-preserved-else-perform_and_settle-5 g c = comes_on c.requires.1.0 c.requires.1.1.1 c.loop-regs.invariant c.perform_and_settle-in-13.ensures c.if-perform_and_settle-5.false

pub loop-regs-smaller-else-perform_and_settle-5 : goal.loop-regs-smaller-else-perform_and_settle-5
loop-regs-smaller-else-perform_and_settle-5 g c = comes_nearer c.requires.1.0 c.requires.1.1.1 c.loop-regs.invariant c.perform_and_settle-in-13.ensures c.if-perform_and_settle-5.false

pub returns-then-perform_and_settle-6 : goal.returns-then-perform_and_settle-6
returns-then-perform_and_settle-6 g c = comes_to_end c.requires.1.0 c.requires.1.1.1 c.loop-regs.invariant c.perform_and_settle-in-16.ensures c.if-perform_and_settle-6.true

pub loop-regs-preserved-else-perform_and_settle-6 : goal.loop-regs-preserved-else-perform_and_settle-6
loop-regs-preserved-else-perform_and_settle-6 g c = comes_on c.requires.1.0 c.requires.1.1.1 c.loop-regs.invariant c.perform_and_settle-in-16.ensures c.if-perform_and_settle-6.false

pub loop-regs-smaller-else-perform_and_settle-6 : goal.loop-regs-smaller-else-perform_and_settle-6
loop-regs-smaller-else-perform_and_settle-6 g c = comes_nearer c.requires.1.0 c.requires.1.1.1 c.loop-regs.invariant c.perform_and_settle-in-16.ensures c.if-perform_and_settle-6.false

pub returns-then-perform_and_settle-7 : goal.returns-then-perform_and_settle-7
returns-then-perform_and_settle-7 g c = comes_to_end c.requires.1.0 c.requires.1.1.1 c.loop-regs.invariant c.perform_and_settle-in-17.ensures c.if-perform_and_settle-7.true

pub loop-regs-preserved-else-perform_and_settle-7 : goal.loop-regs-preserved-else-perform_and_settle-7
loop-regs-preserved-else-perform_and_settle-7 g c = comes_on c.requires.1.0 c.requires.1.1.1 c.loop-regs.invariant c.perform_and_settle-in-17.ensures c.if-perform_and_settle-7.false

pub loop-regs-smaller-else-perform_and_settle-7 : goal.loop-regs-smaller-else-perform_and_settle-7
loop-regs-smaller-else-perform_and_settle-7 g c = comes_nearer c.requires.1.0 c.requires.1.1.1 c.loop-regs.invariant c.perform_and_settle-in-17.ensures c.if-perform_and_settle-7.false

pub returns-then-perform_and_settle-8 : goal.returns-then-perform_and_settle-8
returns-then-perform_and_settle-8 g c = comes_to_end c.requires.1.0 c.requires.1.1.1 c.loop-regs.invariant c.perform_and_settle-in-21.ensures c.if-perform_and_settle-8.true

pub loop-regs-preserved-else-perform_and_settle-8 : goal.loop-regs-preserved-else-perform_and_settle-8
loop-regs-preserved-else-perform_and_settle-8 g c = comes_on c.requires.1.0 c.requires.1.1.1 c.loop-regs.invariant c.perform_and_settle-in-21.ensures c.if-perform_and_settle-8.false

pub loop-regs-smaller-else-perform_and_settle-8 : goal.loop-regs-smaller-else-perform_and_settle-8
loop-regs-smaller-else-perform_and_settle-8 g c = comes_nearer c.requires.1.0 c.requires.1.1.1 c.loop-regs.invariant c.perform_and_settle-in-21.ensures c.if-perform_and_settle-8.false

pub returns-then-perform_and_settle-9 : goal.returns-then-perform_and_settle-9
returns-then-perform_and_settle-9 g c = comes_to_end c.requires.1.0 c.requires.1.1.1 c.loop-regs.invariant c.perform_and_settle-in-24.ensures c.if-perform_and_settle-9.true

pub loop-regs-preserved-else-perform_and_settle-9 : goal.loop-regs-preserved-else-perform_and_settle-9
loop-regs-preserved-else-perform_and_settle-9 g c = comes_on c.requires.1.0 c.requires.1.1.1 c.loop-regs.invariant c.perform_and_settle-in-24.ensures c.if-perform_and_settle-9.false

pub loop-regs-smaller-else-perform_and_settle-9 : goal.loop-regs-smaller-else-perform_and_settle-9
loop-regs-smaller-else-perform_and_settle-9 g c = comes_nearer c.requires.1.0 c.requires.1.1.1 c.loop-regs.invariant c.perform_and_settle-in-24.ensures c.if-perform_and_settle-9.false

pub returns-then-perform_and_settle-10 : goal.returns-then-perform_and_settle-10
returns-then-perform_and_settle-10 g c = comes_to_end c.requires.1.0 c.requires.1.1.1 c.loop-regs.invariant c.perform_and_settle-in-25.ensures c.if-perform_and_settle-10.true

pub loop-regs-preserved-else-perform_and_settle-10 : goal.loop-regs-preserved-else-perform_and_settle-10
loop-regs-preserved-else-perform_and_settle-10 g c = comes_on c.requires.1.0 c.requires.1.1.1 c.loop-regs.invariant c.perform_and_settle-in-25.ensures c.if-perform_and_settle-10.false

pub loop-regs-smaller-else-perform_and_settle-10 : goal.loop-regs-smaller-else-perform_and_settle-10
loop-regs-smaller-else-perform_and_settle-10 g c = comes_nearer c.requires.1.0 c.requires.1.1.1 c.loop-regs.invariant c.perform_and_settle-in-25.ensures c.if-perform_and_settle-10.false

pub returns-then-perform_and_settle-11 : goal.returns-then-perform_and_settle-11
returns-then-perform_and_settle-11 g c = comes_to_end c.requires.1.0 c.requires.1.1.1 c.loop-regs.invariant c.perform_and_settle-in-29.ensures c.if-perform_and_settle-11.true

pub loop-regs-preserved-else-perform_and_settle-11 : goal.loop-regs-preserved-else-perform_and_settle-11
loop-regs-preserved-else-perform_and_settle-11 g c = comes_on c.requires.1.0 c.requires.1.1.1 c.loop-regs.invariant c.perform_and_settle-in-29.ensures c.if-perform_and_settle-11.false

pub loop-regs-smaller-else-perform_and_settle-11 : goal.loop-regs-smaller-else-perform_and_settle-11
loop-regs-smaller-else-perform_and_settle-11 g c = comes_nearer c.requires.1.0 c.requires.1.1.1 c.loop-regs.invariant c.perform_and_settle-in-29.ensures c.if-perform_and_settle-11.false

pub returns-then-perform_and_settle-12 : goal.returns-then-perform_and_settle-12
returns-then-perform_and_settle-12 g c = comes_to_end c.requires.1.0 c.requires.1.1.1 c.loop-regs.invariant c.perform_and_settle-in-32.ensures c.if-perform_and_settle-12.true

pub loop-regs-preserved-else-perform_and_settle-12 : goal.loop-regs-preserved-else-perform_and_settle-12
loop-regs-preserved-else-perform_and_settle-12 g c = comes_on c.requires.1.0 c.requires.1.1.1 c.loop-regs.invariant c.perform_and_settle-in-32.ensures c.if-perform_and_settle-12.false

pub loop-regs-smaller-else-perform_and_settle-12 : goal.loop-regs-smaller-else-perform_and_settle-12
loop-regs-smaller-else-perform_and_settle-12 g c = comes_nearer c.requires.1.0 c.requires.1.1.1 c.loop-regs.invariant c.perform_and_settle-in-32.ensures c.if-perform_and_settle-12.false

pub returns-then-perform_and_settle-13 : goal.returns-then-perform_and_settle-13
returns-then-perform_and_settle-13 g c = comes_to_end c.requires.1.0 c.requires.1.1.1 c.loop-regs.invariant c.perform_and_settle-in-36.ensures c.if-perform_and_settle-13.true

pub loop-regs-preserved-else-perform_and_settle-13 : goal.loop-regs-preserved-else-perform_and_settle-13
loop-regs-preserved-else-perform_and_settle-13 g c = comes_on c.requires.1.0 c.requires.1.1.1 c.loop-regs.invariant c.perform_and_settle-in-36.ensures c.if-perform_and_settle-13.false

pub loop-regs-smaller-else-perform_and_settle-13 : goal.loop-regs-smaller-else-perform_and_settle-13
loop-regs-smaller-else-perform_and_settle-13 g c = comes_nearer c.requires.1.0 c.requires.1.1.1 c.loop-regs.invariant c.perform_and_settle-in-36.ensures c.if-perform_and_settle-13.false

pub returns-then-perform_and_settle-14 : goal.returns-then-perform_and_settle-14
returns-then-perform_and_settle-14 g c = comes_to_end c.requires.1.0 c.requires.1.1.1 c.loop-regs.invariant c.perform_and_settle-in-37.ensures c.if-perform_and_settle-14.true

pub loop-regs-preserved-else-perform_and_settle-14 : goal.loop-regs-preserved-else-perform_and_settle-14
loop-regs-preserved-else-perform_and_settle-14 g c = comes_on c.requires.1.0 c.requires.1.1.1 c.loop-regs.invariant c.perform_and_settle-in-37.ensures c.if-perform_and_settle-14.false

pub loop-regs-smaller-else-perform_and_settle-14 : goal.loop-regs-smaller-else-perform_and_settle-14
loop-regs-smaller-else-perform_and_settle-14 g c = comes_nearer c.requires.1.0 c.requires.1.1.1 c.loop-regs.invariant c.perform_and_settle-in-37.ensures c.if-perform_and_settle-14.false

pub returns-then-perform_and_settle-15 : goal.returns-then-perform_and_settle-15
returns-then-perform_and_settle-15 g c = comes_to_end c.requires.1.0 c.requires.1.1.1 c.loop-regs.invariant c.perform_and_settle-in-38.ensures c.if-perform_and_settle-15.true

pub loop-regs-preserved-else-perform_and_settle-15 : goal.loop-regs-preserved-else-perform_and_settle-15
loop-regs-preserved-else-perform_and_settle-15 g c = comes_on c.requires.1.0 c.requires.1.1.1 c.loop-regs.invariant c.perform_and_settle-in-38.ensures c.if-perform_and_settle-15.false

pub loop-regs-smaller-else-perform_and_settle-15 : goal.loop-regs-smaller-else-perform_and_settle-15
loop-regs-smaller-else-perform_and_settle-15 g c = comes_nearer c.requires.1.0 c.requires.1.1.1 c.loop-regs.invariant c.perform_and_settle-in-38.ensures c.if-perform_and_settle-15.false

pub returns-then-perform_and_settle-16 : goal.returns-then-perform_and_settle-16
returns-then-perform_and_settle-16 g c = comes_to_end c.requires.1.0 c.requires.1.1.1 c.loop-regs.invariant c.perform_and_settle-in-41.ensures c.if-perform_and_settle-16.true

pub loop-regs-preserved-else-perform_and_settle-16 : goal.loop-regs-preserved-else-perform_and_settle-16
loop-regs-preserved-else-perform_and_settle-16 g c = comes_on c.requires.1.0 c.requires.1.1.1 c.loop-regs.invariant c.perform_and_settle-in-41.ensures c.if-perform_and_settle-16.false

pub loop-regs-smaller-else-perform_and_settle-16 : goal.loop-regs-smaller-else-perform_and_settle-16
loop-regs-smaller-else-perform_and_settle-16 g c = comes_nearer c.requires.1.0 c.requires.1.1.1 c.loop-regs.invariant c.perform_and_settle-in-41.ensures c.if-perform_and_settle-16.false

pub returns-then-perform_and_settle-17 : goal.returns-then-perform_and_settle-17
returns-then-perform_and_settle-17 g c = comes_to_end c.requires.1.0 c.requires.1.1.1 c.loop-regs.invariant c.perform_and_settle-in-42.ensures c.if-perform_and_settle-17.true

pub loop-regs-preserved-else-perform_and_settle-17 : goal.loop-regs-preserved-else-perform_and_settle-17
loop-regs-preserved-else-perform_and_settle-17 g c = comes_on c.requires.1.0 c.requires.1.1.1 c.loop-regs.invariant c.perform_and_settle-in-42.ensures c.if-perform_and_settle-17.false

pub loop-regs-smaller-else-perform_and_settle-17 : goal.loop-regs-smaller-else-perform_and_settle-17
loop-regs-smaller-else-perform_and_settle-17 g c = comes_nearer c.requires.1.0 c.requires.1.1.1 c.loop-regs.invariant c.perform_and_settle-in-42.ensures c.if-perform_and_settle-17.false

pub returns-then-perform_and_settle-18 : goal.returns-then-perform_and_settle-18
returns-then-perform_and_settle-18 g c = comes_to_end c.requires.1.0 c.requires.1.1.1 c.loop-regs.invariant c.perform_and_settle-in-44.ensures c.if-perform_and_settle-18.true

pub loop-regs-preserved-else-perform_and_settle-18 : goal.loop-regs-preserved-else-perform_and_settle-18
loop-regs-preserved-else-perform_and_settle-18 g c = comes_on c.requires.1.0 c.requires.1.1.1 c.loop-regs.invariant c.perform_and_settle-in-44.ensures c.if-perform_and_settle-18.false

pub loop-regs-smaller-else-perform_and_settle-18 : goal.loop-regs-smaller-else-perform_and_settle-18
loop-regs-smaller-else-perform_and_settle-18 g c = comes_nearer c.requires.1.0 c.requires.1.1.1 c.loop-regs.invariant c.perform_and_settle-in-44.ensures c.if-perform_and_settle-18.false

pub returns-then-perform_and_settle-19 : goal.returns-then-perform_and_settle-19
returns-then-perform_and_settle-19 g c = comes_to_end c.requires.1.0 c.requires.1.1.1 c.loop-regs.invariant c.perform_and_settle-in-45.ensures c.if-perform_and_settle-19.true

pub loop-regs-preserved-else-perform_and_settle-19 : goal.loop-regs-preserved-else-perform_and_settle-19
loop-regs-preserved-else-perform_and_settle-19 g c = comes_on c.requires.1.0 c.requires.1.1.1 c.loop-regs.invariant c.perform_and_settle-in-45.ensures c.if-perform_and_settle-19.false

pub loop-regs-smaller-else-perform_and_settle-19 : goal.loop-regs-smaller-else-perform_and_settle-19
loop-regs-smaller-else-perform_and_settle-19 g c = comes_nearer c.requires.1.0 c.requires.1.1.1 c.loop-regs.invariant c.perform_and_settle-in-45.ensures c.if-perform_and_settle-19.false

pub returns-then-perform_and_settle-20 : goal.returns-then-perform_and_settle-20
returns-then-perform_and_settle-20 g c = comes_to_end c.requires.1.0 c.requires.1.1.1 c.loop-regs.invariant c.perform_and_settle-in-48.ensures c.if-perform_and_settle-20.true

pub loop-regs-preserved-else-perform_and_settle-20 : goal.loop-regs-preserved-else-perform_and_settle-20
loop-regs-preserved-else-perform_and_settle-20 g c = comes_on c.requires.1.0 c.requires.1.1.1 c.loop-regs.invariant c.perform_and_settle-in-48.ensures c.if-perform_and_settle-20.false

pub loop-regs-smaller-else-perform_and_settle-20 : goal.loop-regs-smaller-else-perform_and_settle-20
loop-regs-smaller-else-perform_and_settle-20 g c = comes_nearer c.requires.1.0 c.requires.1.1.1 c.loop-regs.invariant c.perform_and_settle-in-48.ensures c.if-perform_and_settle-20.false

pub returns-then-perform_and_settle-21 : goal.returns-then-perform_and_settle-21
returns-then-perform_and_settle-21 g c = comes_to_end c.requires.1.0 c.requires.1.1.1 c.loop-regs.invariant c.perform_and_settle-in-49.ensures c.if-perform_and_settle-21.true

pub loop-regs-preserved-else-perform_and_settle-21 : goal.loop-regs-preserved-else-perform_and_settle-21
loop-regs-preserved-else-perform_and_settle-21 g c = comes_on c.requires.1.0 c.requires.1.1.1 c.loop-regs.invariant c.perform_and_settle-in-49.ensures c.if-perform_and_settle-21.false

pub loop-regs-smaller-else-perform_and_settle-21 : goal.loop-regs-smaller-else-perform_and_settle-21
loop-regs-smaller-else-perform_and_settle-21 g c = comes_nearer c.requires.1.0 c.requires.1.1.1 c.loop-regs.invariant c.perform_and_settle-in-49.ensures c.if-perform_and_settle-21.false

pub returns-then-perform_and_settle-22 : goal.returns-then-perform_and_settle-22
returns-then-perform_and_settle-22 g c = comes_to_end c.requires.1.0 c.requires.1.1.1 c.loop-regs.invariant c.perform_and_settle-in-53.ensures c.if-perform_and_settle-22.true

pub loop-regs-preserved-else-perform_and_settle-22 : goal.loop-regs-preserved-else-perform_and_settle-22
loop-regs-preserved-else-perform_and_settle-22 g c = comes_on c.requires.1.0 c.requires.1.1.1 c.loop-regs.invariant c.perform_and_settle-in-53.ensures c.if-perform_and_settle-22.false

pub loop-regs-smaller-else-perform_and_settle-22 : goal.loop-regs-smaller-else-perform_and_settle-22
loop-regs-smaller-else-perform_and_settle-22 g c = comes_nearer c.requires.1.0 c.requires.1.1.1 c.loop-regs.invariant c.perform_and_settle-in-53.ensures c.if-perform_and_settle-22.false

pub returns-then-perform_and_settle-23 : goal.returns-then-perform_and_settle-23
returns-then-perform_and_settle-23 g c = comes_to_end c.requires.1.0 c.requires.1.1.1 c.loop-regs.invariant c.perform_and_settle-in-56.ensures c.if-perform_and_settle-23.true

pub loop-regs-preserved-else-perform_and_settle-23 : goal.loop-regs-preserved-else-perform_and_settle-23
loop-regs-preserved-else-perform_and_settle-23 g c = comes_on c.requires.1.0 c.requires.1.1.1 c.loop-regs.invariant c.perform_and_settle-in-56.ensures c.if-perform_and_settle-23.false

pub loop-regs-smaller-else-perform_and_settle-23 : goal.loop-regs-smaller-else-perform_and_settle-23
loop-regs-smaller-else-perform_and_settle-23 g c = comes_nearer c.requires.1.0 c.requires.1.1.1 c.loop-regs.invariant c.perform_and_settle-in-56.ensures c.if-perform_and_settle-23.false

pub returns-then-perform_and_settle-24 : goal.returns-then-perform_and_settle-24
returns-then-perform_and_settle-24 g c = comes_to_end c.requires.1.0 c.requires.1.1.1 c.loop-regs.invariant c.perform_and_settle-in-57.ensures c.if-perform_and_settle-24.true

pub loop-regs-preserved-else-perform_and_settle-24 : goal.loop-regs-preserved-else-perform_and_settle-24
loop-regs-preserved-else-perform_and_settle-24 g c = comes_on c.requires.1.0 c.requires.1.1.1 c.loop-regs.invariant c.perform_and_settle-in-57.ensures c.if-perform_and_settle-24.false

pub loop-regs-smaller-else-perform_and_settle-24 : goal.loop-regs-smaller-else-perform_and_settle-24
loop-regs-smaller-else-perform_and_settle-24 g c = comes_nearer c.requires.1.0 c.requires.1.1.1 c.loop-regs.invariant c.perform_and_settle-in-57.ensures c.if-perform_and_settle-24.false

pub returns-then-perform_and_settle-25 : goal.returns-then-perform_and_settle-25
returns-then-perform_and_settle-25 g c = comes_to_end c.requires.1.0 c.requires.1.1.1 c.loop-regs.invariant c.perform_and_settle-in-61.ensures c.if-perform_and_settle-25.true

pub loop-regs-preserved-else-perform_and_settle-25 : goal.loop-regs-preserved-else-perform_and_settle-25
loop-regs-preserved-else-perform_and_settle-25 g c = comes_on c.requires.1.0 c.requires.1.1.1 c.loop-regs.invariant c.perform_and_settle-in-61.ensures c.if-perform_and_settle-25.false

pub loop-regs-smaller-else-perform_and_settle-25 : goal.loop-regs-smaller-else-perform_and_settle-25
loop-regs-smaller-else-perform_and_settle-25 g c = comes_nearer c.requires.1.0 c.requires.1.1.1 c.loop-regs.invariant c.perform_and_settle-in-61.ensures c.if-perform_and_settle-25.false

pub returns-then-perform_and_settle-26 : goal.returns-then-perform_and_settle-26
returns-then-perform_and_settle-26 g c = comes_to_end c.requires.1.0 c.requires.1.1.1 c.loop-regs.invariant c.perform_and_settle-in-69.ensures c.if-perform_and_settle-26.true

pub loop-regs-preserved-else-perform_and_settle-26 : goal.loop-regs-preserved-else-perform_and_settle-26
loop-regs-preserved-else-perform_and_settle-26 g c = comes_on c.requires.1.0 c.requires.1.1.1 c.loop-regs.invariant c.perform_and_settle-in-69.ensures c.if-perform_and_settle-26.false

pub loop-regs-smaller-else-perform_and_settle-26 : goal.loop-regs-smaller-else-perform_and_settle-26
loop-regs-smaller-else-perform_and_settle-26 g c = comes_nearer c.requires.1.0 c.requires.1.1.1 c.loop-regs.invariant c.perform_and_settle-in-69.ensures c.if-perform_and_settle-26.false

pub returns-then-perform_and_settle-27 : goal.returns-then-perform_and_settle-27
returns-then-perform_and_settle-27 g c = comes_to_end c.requires.1.0 c.requires.1.1.1 c.loop-regs.invariant c.perform_and_settle-in-70.ensures c.if-perform_and_settle-27.true

pub loop-regs-preserved-else-perform_and_settle-27 : goal.loop-regs-preserved-else-perform_and_settle-27
loop-regs-preserved-else-perform_and_settle-27 g c = comes_on c.requires.1.0 c.requires.1.1.1 c.loop-regs.invariant c.perform_and_settle-in-70.ensures c.if-perform_and_settle-27.false

pub loop-regs-smaller-else-perform_and_settle-27 : goal.loop-regs-smaller-else-perform_and_settle-27
loop-regs-smaller-else-perform_and_settle-27 g c = comes_nearer c.requires.1.0 c.requires.1.1.1 c.loop-regs.invariant c.perform_and_settle-in-70.ensures c.if-perform_and_settle-27.false

pub returns-then-perform_and_settle-28 : goal.returns-then-perform_and_settle-28
returns-then-perform_and_settle-28 g c = comes_to_end c.requires.1.0 c.requires.1.1.1 c.loop-regs.invariant c.perform_and_settle-in-72.ensures c.if-perform_and_settle-28.true

pub loop-regs-preserved-else-perform_and_settle-28 : goal.loop-regs-preserved-else-perform_and_settle-28
loop-regs-preserved-else-perform_and_settle-28 g c = comes_on c.requires.1.0 c.requires.1.1.1 c.loop-regs.invariant c.perform_and_settle-in-72.ensures c.if-perform_and_settle-28.false

pub loop-regs-smaller-else-perform_and_settle-28 : goal.loop-regs-smaller-else-perform_and_settle-28
loop-regs-smaller-else-perform_and_settle-28 g c = comes_nearer c.requires.1.0 c.requires.1.1.1 c.loop-regs.invariant c.perform_and_settle-in-72.ensures c.if-perform_and_settle-28.false

pub returns-then-perform_and_settle-29 : goal.returns-then-perform_and_settle-29
returns-then-perform_and_settle-29 g c = comes_to_end c.requires.1.0 c.requires.1.1.1 c.loop-regs.invariant c.perform_and_settle-in-73.ensures c.if-perform_and_settle-29.true

pub loop-regs-preserved-else-perform_and_settle-29 : goal.loop-regs-preserved-else-perform_and_settle-29
loop-regs-preserved-else-perform_and_settle-29 g c = comes_on c.requires.1.0 c.requires.1.1.1 c.loop-regs.invariant c.perform_and_settle-in-73.ensures c.if-perform_and_settle-29.false

pub loop-regs-smaller-else-perform_and_settle-29 : goal.loop-regs-smaller-else-perform_and_settle-29
loop-regs-smaller-else-perform_and_settle-29 g c = comes_nearer c.requires.1.0 c.requires.1.1.1 c.loop-regs.invariant c.perform_and_settle-in-73.ensures c.if-perform_and_settle-29.false

pub returns-then-perform_and_settle-30 : goal.returns-then-perform_and_settle-30
returns-then-perform_and_settle-30 g c = comes_to_end c.requires.1.0 c.requires.1.1.1 c.loop-regs.invariant c.perform_and_settle-in-74.ensures c.if-perform_and_settle-30.true

pub loop-regs-preserved-else-perform_and_settle-30 : goal.loop-regs-preserved-else-perform_and_settle-30
loop-regs-preserved-else-perform_and_settle-30 g c = comes_on c.requires.1.0 c.requires.1.1.1 c.loop-regs.invariant c.perform_and_settle-in-74.ensures c.if-perform_and_settle-30.false

pub loop-regs-smaller-else-perform_and_settle-30 : goal.loop-regs-smaller-else-perform_and_settle-30
loop-regs-smaller-else-perform_and_settle-30 g c = comes_nearer c.requires.1.0 c.requires.1.1.1 c.loop-regs.invariant c.perform_and_settle-in-74.ensures c.if-perform_and_settle-30.false

pub returns-then-perform_and_settle-31 : goal.returns-then-perform_and_settle-31
returns-then-perform_and_settle-31 g c = comes_to_end c.requires.1.0 c.requires.1.1.1 c.loop-regs.invariant c.perform_and_settle-in-76.ensures c.if-perform_and_settle-31.true

pub loop-regs-preserved-else-perform_and_settle-31 : goal.loop-regs-preserved-else-perform_and_settle-31
loop-regs-preserved-else-perform_and_settle-31 g c = comes_on c.requires.1.0 c.requires.1.1.1 c.loop-regs.invariant c.perform_and_settle-in-76.ensures c.if-perform_and_settle-31.false

pub loop-regs-smaller-else-perform_and_settle-31 : goal.loop-regs-smaller-else-perform_and_settle-31
loop-regs-smaller-else-perform_and_settle-31 g c = comes_nearer c.requires.1.0 c.requires.1.1.1 c.loop-regs.invariant c.perform_and_settle-in-76.ensures c.if-perform_and_settle-31.false

pub returns-then-perform_and_settle-32 : goal.returns-then-perform_and_settle-32
returns-then-perform_and_settle-32 g c = comes_to_end c.requires.1.0 c.requires.1.1.1 c.loop-regs.invariant c.perform_and_settle-in-80.ensures c.if-perform_and_settle-32.true

pub loop-regs-preserved-else-perform_and_settle-32 : goal.loop-regs-preserved-else-perform_and_settle-32
loop-regs-preserved-else-perform_and_settle-32 g c = comes_on c.requires.1.0 c.requires.1.1.1 c.loop-regs.invariant c.perform_and_settle-in-80.ensures c.if-perform_and_settle-32.false

pub loop-regs-smaller-else-perform_and_settle-32 : goal.loop-regs-smaller-else-perform_and_settle-32
loop-regs-smaller-else-perform_and_settle-32 g c = comes_nearer c.requires.1.0 c.requires.1.1.1 c.loop-regs.invariant c.perform_and_settle-in-80.ensures c.if-perform_and_settle-32.false

pub returns-then-perform_and_settle-33 : goal.returns-then-perform_and_settle-33
returns-then-perform_and_settle-33 g c = comes_to_end c.requires.1.0 c.requires.1.1.1 c.loop-regs.invariant c.perform_and_settle-in-81.ensures c.if-perform_and_settle-33.true

pub loop-regs-preserved-else-perform_and_settle-33 : goal.loop-regs-preserved-else-perform_and_settle-33
loop-regs-preserved-else-perform_and_settle-33 g c = comes_on c.requires.1.0 c.requires.1.1.1 c.loop-regs.invariant c.perform_and_settle-in-81.ensures c.if-perform_and_settle-33.false

pub loop-regs-smaller-else-perform_and_settle-33 : goal.loop-regs-smaller-else-perform_and_settle-33
loop-regs-smaller-else-perform_and_settle-33 g c = comes_nearer c.requires.1.0 c.requires.1.1.1 c.loop-regs.invariant c.perform_and_settle-in-81.ensures c.if-perform_and_settle-33.false

pub returns-then-perform_and_settle-34 : goal.returns-then-perform_and_settle-34
returns-then-perform_and_settle-34 g c = comes_to_end c.requires.1.0 c.requires.1.1.1 c.loop-regs.invariant c.perform_and_settle-in-96.ensures c.if-perform_and_settle-34.true

pub loop-regs-preserved-else-perform_and_settle-34 : goal.loop-regs-preserved-else-perform_and_settle-34
loop-regs-preserved-else-perform_and_settle-34 g c = comes_on c.requires.1.0 c.requires.1.1.1 c.loop-regs.invariant c.perform_and_settle-in-96.ensures c.if-perform_and_settle-34.false

pub loop-regs-smaller-else-perform_and_settle-34 : goal.loop-regs-smaller-else-perform_and_settle-34
loop-regs-smaller-else-perform_and_settle-34 g c = comes_nearer c.requires.1.0 c.requires.1.1.1 c.loop-regs.invariant c.perform_and_settle-in-96.ensures c.if-perform_and_settle-34.false

pub returns-then-perform_and_settle-35 : goal.returns-then-perform_and_settle-35
returns-then-perform_and_settle-35 g c = comes_to_end c.requires.1.0 c.requires.1.1.1 c.loop-regs.invariant c.perform_and_settle-in-101.ensures c.if-perform_and_settle-35.true

pub loop-regs-preserved-else-perform_and_settle-35 : goal.loop-regs-preserved-else-perform_and_settle-35
loop-regs-preserved-else-perform_and_settle-35 g c = comes_on c.requires.1.0 c.requires.1.1.1 c.loop-regs.invariant c.perform_and_settle-in-101.ensures c.if-perform_and_settle-35.false

pub loop-regs-smaller-else-perform_and_settle-35 : goal.loop-regs-smaller-else-perform_and_settle-35
loop-regs-smaller-else-perform_and_settle-35 g c = comes_nearer c.requires.1.0 c.requires.1.1.1 c.loop-regs.invariant c.perform_and_settle-in-101.ensures c.if-perform_and_settle-35.false

pub returns-then-perform_and_settle-36 : goal.returns-then-perform_and_settle-36
returns-then-perform_and_settle-36 g c = comes_to_end c.requires.1.0 c.requires.1.1.1 c.loop-regs.invariant c.perform_and_settle-in-102.ensures c.if-perform_and_settle-36.true

pub loop-regs-preserved-else-perform_and_settle-36 : goal.loop-regs-preserved-else-perform_and_settle-36
loop-regs-preserved-else-perform_and_settle-36 g c = comes_on c.requires.1.0 c.requires.1.1.1 c.loop-regs.invariant c.perform_and_settle-in-102.ensures c.if-perform_and_settle-36.false

pub loop-regs-smaller-else-perform_and_settle-36 : goal.loop-regs-smaller-else-perform_and_settle-36
loop-regs-smaller-else-perform_and_settle-36 g c = comes_nearer c.requires.1.0 c.requires.1.1.1 c.loop-regs.invariant c.perform_and_settle-in-102.ensures c.if-perform_and_settle-36.false

pub returns-then-perform_and_settle-37 : goal.returns-then-perform_and_settle-37
returns-then-perform_and_settle-37 g c = comes_to_end c.requires.1.0 c.requires.1.1.1 c.loop-regs.invariant c.perform_and_settle-in-104.ensures c.if-perform_and_settle-37.true

pub loop-regs-preserved-else-perform_and_settle-37 : goal.loop-regs-preserved-else-perform_and_settle-37
loop-regs-preserved-else-perform_and_settle-37 g c = comes_on c.requires.1.0 c.requires.1.1.1 c.loop-regs.invariant c.perform_and_settle-in-104.ensures c.if-perform_and_settle-37.false

pub loop-regs-smaller-else-perform_and_settle-37 : goal.loop-regs-smaller-else-perform_and_settle-37
loop-regs-smaller-else-perform_and_settle-37 g c = comes_nearer c.requires.1.0 c.requires.1.1.1 c.loop-regs.invariant c.perform_and_settle-in-104.ensures c.if-perform_and_settle-37.false

pub returns-then-perform_and_settle-38 : goal.returns-then-perform_and_settle-38
returns-then-perform_and_settle-38 g c = comes_to_end c.requires.1.0 c.requires.1.1.1 c.loop-regs.invariant c.perform_and_settle-in-105.ensures c.if-perform_and_settle-38.true

pub loop-regs-preserved-else-perform_and_settle-38 : goal.loop-regs-preserved-else-perform_and_settle-38
loop-regs-preserved-else-perform_and_settle-38 g c = comes_on c.requires.1.0 c.requires.1.1.1 c.loop-regs.invariant c.perform_and_settle-in-105.ensures c.if-perform_and_settle-38.false

pub loop-regs-smaller-else-perform_and_settle-38 : goal.loop-regs-smaller-else-perform_and_settle-38
loop-regs-smaller-else-perform_and_settle-38 g c = comes_nearer c.requires.1.0 c.requires.1.1.1 c.loop-regs.invariant c.perform_and_settle-in-105.ensures c.if-perform_and_settle-38.false

pub returns-then-perform_and_settle-39 : goal.returns-then-perform_and_settle-39
returns-then-perform_and_settle-39 g c = comes_to_end c.requires.1.0 c.requires.1.1.1 c.loop-regs.invariant c.perform_and_settle-in-106.ensures c.if-perform_and_settle-39.true

pub loop-regs-preserved-else-perform_and_settle-39 : goal.loop-regs-preserved-else-perform_and_settle-39
loop-regs-preserved-else-perform_and_settle-39 g c = comes_on c.requires.1.0 c.requires.1.1.1 c.loop-regs.invariant c.perform_and_settle-in-106.ensures c.if-perform_and_settle-39.false

pub loop-regs-smaller-else-perform_and_settle-39 : goal.loop-regs-smaller-else-perform_and_settle-39
loop-regs-smaller-else-perform_and_settle-39 g c = comes_nearer c.requires.1.0 c.requires.1.1.1 c.loop-regs.invariant c.perform_and_settle-in-106.ensures c.if-perform_and_settle-39.false

pub returns-then-perform_and_settle-40 : goal.returns-then-perform_and_settle-40
returns-then-perform_and_settle-40 g c = comes_to_end c.requires.1.0 c.requires.1.1.1 c.loop-regs.invariant c.perform_and_settle-in-108.ensures c.if-perform_and_settle-40.true

pub loop-regs-preserved-else-perform_and_settle-40 : goal.loop-regs-preserved-else-perform_and_settle-40
loop-regs-preserved-else-perform_and_settle-40 g c = comes_on c.requires.1.0 c.requires.1.1.1 c.loop-regs.invariant c.perform_and_settle-in-108.ensures c.if-perform_and_settle-40.false

pub loop-regs-smaller-else-perform_and_settle-40 : goal.loop-regs-smaller-else-perform_and_settle-40
loop-regs-smaller-else-perform_and_settle-40 g c = comes_nearer c.requires.1.0 c.requires.1.1.1 c.loop-regs.invariant c.perform_and_settle-in-108.ensures c.if-perform_and_settle-40.false

pub returns-then-perform_and_settle-41 : goal.returns-then-perform_and_settle-41
returns-then-perform_and_settle-41 g c = comes_to_end c.requires.1.0 c.requires.1.1.1 c.loop-regs.invariant c.perform_and_settle-in-109.ensures c.if-perform_and_settle-41.true

pub loop-regs-preserved-else-perform_and_settle-41 : goal.loop-regs-preserved-else-perform_and_settle-41
loop-regs-preserved-else-perform_and_settle-41 g c = comes_on c.requires.1.0 c.requires.1.1.1 c.loop-regs.invariant c.perform_and_settle-in-109.ensures c.if-perform_and_settle-41.false

pub loop-regs-smaller-else-perform_and_settle-41 : goal.loop-regs-smaller-else-perform_and_settle-41
loop-regs-smaller-else-perform_and_settle-41 g c = comes_nearer c.requires.1.0 c.requires.1.1.1 c.loop-regs.invariant c.perform_and_settle-in-109.ensures c.if-perform_and_settle-41.false

pub returns-then-perform_and_settle-42 : goal.returns-then-perform_and_settle-42
returns-then-perform_and_settle-42 g c = comes_to_end c.requires.1.0 c.requires.1.1.1 c.loop-regs.invariant c.perform_and_settle-in-112.ensures c.if-perform_and_settle-42.true

pub loop-regs-preserved-else-perform_and_settle-42 : goal.loop-regs-preserved-else-perform_and_settle-42
loop-regs-preserved-else-perform_and_settle-42 g c = comes_on c.requires.1.0 c.requires.1.1.1 c.loop-regs.invariant c.perform_and_settle-in-112.ensures c.if-perform_and_settle-42.false

pub loop-regs-smaller-else-perform_and_settle-42 : goal.loop-regs-smaller-else-perform_and_settle-42
loop-regs-smaller-else-perform_and_settle-42 g c = comes_nearer c.requires.1.0 c.requires.1.1.1 c.loop-regs.invariant c.perform_and_settle-in-112.ensures c.if-perform_and_settle-42.false

pub returns-then-perform_and_settle-43 : goal.returns-then-perform_and_settle-43
returns-then-perform_and_settle-43 g c = comes_to_end c.requires.1.0 c.requires.1.1.1 c.loop-regs.invariant c.perform_and_settle-in-117.ensures c.if-perform_and_settle-43.true

pub loop-regs-preserved-else-perform_and_settle-43 : goal.loop-regs-preserved-else-perform_and_settle-43
loop-regs-preserved-else-perform_and_settle-43 g c = comes_on c.requires.1.0 c.requires.1.1.1 c.loop-regs.invariant c.perform_and_settle-in-117.ensures c.if-perform_and_settle-43.false

pub loop-regs-smaller-else-perform_and_settle-43 : goal.loop-regs-smaller-else-perform_and_settle-43
loop-regs-smaller-else-perform_and_settle-43 g c = comes_nearer c.requires.1.0 c.requires.1.1.1 c.loop-regs.invariant c.perform_and_settle-in-117.ensures c.if-perform_and_settle-43.false

pub returns-then-perform_and_settle-44 : goal.returns-then-perform_and_settle-44
returns-then-perform_and_settle-44 g c = comes_to_end c.requires.1.0 c.requires.1.1.1 c.loop-regs.invariant c.perform_and_settle-in-120.ensures c.if-perform_and_settle-44.true

pub loop-regs-preserved-else-perform_and_settle-44 : goal.loop-regs-preserved-else-perform_and_settle-44
loop-regs-preserved-else-perform_and_settle-44 g c = comes_on c.requires.1.0 c.requires.1.1.1 c.loop-regs.invariant c.perform_and_settle-in-120.ensures c.if-perform_and_settle-44.false

pub loop-regs-smaller-else-perform_and_settle-44 : goal.loop-regs-smaller-else-perform_and_settle-44
loop-regs-smaller-else-perform_and_settle-44 g c = comes_nearer c.requires.1.0 c.requires.1.1.1 c.loop-regs.invariant c.perform_and_settle-in-120.ensures c.if-perform_and_settle-44.false

pub returns-then-perform_and_settle-45 : goal.returns-then-perform_and_settle-45
returns-then-perform_and_settle-45 g c = comes_to_end c.requires.1.0 c.requires.1.1.1 c.loop-regs.invariant c.perform_and_settle-in-121.ensures c.if-perform_and_settle-45.true

pub loop-regs-preserved-else-perform_and_settle-45 : goal.loop-regs-preserved-else-perform_and_settle-45
loop-regs-preserved-else-perform_and_settle-45 g c = comes_on c.requires.1.0 c.requires.1.1.1 c.loop-regs.invariant c.perform_and_settle-in-121.ensures c.if-perform_and_settle-45.false

pub loop-regs-smaller-else-perform_and_settle-45 : goal.loop-regs-smaller-else-perform_and_settle-45
loop-regs-smaller-else-perform_and_settle-45 g c = comes_nearer c.requires.1.0 c.requires.1.1.1 c.loop-regs.invariant c.perform_and_settle-in-121.ensures c.if-perform_and_settle-45.false

pub returns-then-perform_and_settle-46 : goal.returns-then-perform_and_settle-46
returns-then-perform_and_settle-46 g c = comes_to_end c.requires.1.0 c.requires.1.1.1 c.loop-regs.invariant c.perform_and_settle-in-125.ensures c.if-perform_and_settle-46.true

pub loop-regs-preserved-else-perform_and_settle-46 : goal.loop-regs-preserved-else-perform_and_settle-46
loop-regs-preserved-else-perform_and_settle-46 g c = comes_on c.requires.1.0 c.requires.1.1.1 c.loop-regs.invariant c.perform_and_settle-in-125.ensures c.if-perform_and_settle-46.false

pub loop-regs-smaller-else-perform_and_settle-46 : goal.loop-regs-smaller-else-perform_and_settle-46
loop-regs-smaller-else-perform_and_settle-46 g c = comes_nearer c.requires.1.0 c.requires.1.1.1 c.loop-regs.invariant c.perform_and_settle-in-125.ensures c.if-perform_and_settle-46.false

pub returns-then-perform_and_settle-47 : goal.returns-then-perform_and_settle-47
returns-then-perform_and_settle-47 g c = comes_to_end c.requires.1.0 c.requires.1.1.1 c.loop-regs.invariant c.perform_and_settle-in-136.ensures c.if-perform_and_settle-47.true

pub loop-regs-preserved-else-perform_and_settle-47 : goal.loop-regs-preserved-else-perform_and_settle-47
loop-regs-preserved-else-perform_and_settle-47 g c = comes_on c.requires.1.0 c.requires.1.1.1 c.loop-regs.invariant c.perform_and_settle-in-136.ensures c.if-perform_and_settle-47.false

pub loop-regs-smaller-else-perform_and_settle-47 : goal.loop-regs-smaller-else-perform_and_settle-47
loop-regs-smaller-else-perform_and_settle-47 g c = comes_nearer c.requires.1.0 c.requires.1.1.1 c.loop-regs.invariant c.perform_and_settle-in-136.ensures c.if-perform_and_settle-47.false

pub returns-then-perform_and_settle-48 : goal.returns-then-perform_and_settle-48
returns-then-perform_and_settle-48 g c = comes_to_end c.requires.1.0 c.requires.1.1.1 c.loop-regs.invariant c.perform_and_settle-in-138.ensures c.if-perform_and_settle-48.true

pub loop-regs-preserved-else-perform_and_settle-48 : goal.loop-regs-preserved-else-perform_and_settle-48
loop-regs-preserved-else-perform_and_settle-48 g c = comes_on c.requires.1.0 c.requires.1.1.1 c.loop-regs.invariant c.perform_and_settle-in-138.ensures c.if-perform_and_settle-48.false

pub loop-regs-smaller-else-perform_and_settle-48 : goal.loop-regs-smaller-else-perform_and_settle-48
loop-regs-smaller-else-perform_and_settle-48 g c = comes_nearer c.requires.1.0 c.requires.1.1.1 c.loop-regs.invariant c.perform_and_settle-in-138.ensures c.if-perform_and_settle-48.false

pub returns-then-perform_and_settle-49 : goal.returns-then-perform_and_settle-49
returns-then-perform_and_settle-49 g c = comes_to_end c.requires.1.0 c.requires.1.1.1 c.loop-regs.invariant c.perform_and_settle-in-140.ensures c.if-perform_and_settle-49.true

pub loop-regs-preserved-else-perform_and_settle-49 : goal.loop-regs-preserved-else-perform_and_settle-49
loop-regs-preserved-else-perform_and_settle-49 g c = comes_on c.requires.1.0 c.requires.1.1.1 c.loop-regs.invariant c.perform_and_settle-in-140.ensures c.if-perform_and_settle-49.false

pub loop-regs-smaller-else-perform_and_settle-49 : goal.loop-regs-smaller-else-perform_and_settle-49
loop-regs-smaller-else-perform_and_settle-49 g c = comes_nearer c.requires.1.0 c.requires.1.1.1 c.loop-regs.invariant c.perform_and_settle-in-140.ensures c.if-perform_and_settle-49.false

pub returns-then-perform_and_settle-50 : goal.returns-then-perform_and_settle-50
returns-then-perform_and_settle-50 g c = comes_to_end c.requires.1.0 c.requires.1.1.1 c.loop-regs.invariant c.perform_and_settle-in-141.ensures c.if-perform_and_settle-50.true

pub loop-regs-preserved-else-perform_and_settle-50 : goal.loop-regs-preserved-else-perform_and_settle-50
loop-regs-preserved-else-perform_and_settle-50 g c = comes_on c.requires.1.0 c.requires.1.1.1 c.loop-regs.invariant c.perform_and_settle-in-141.ensures c.if-perform_and_settle-50.false

pub loop-regs-smaller-else-perform_and_settle-50 : goal.loop-regs-smaller-else-perform_and_settle-50
loop-regs-smaller-else-perform_and_settle-50 g c = comes_nearer c.requires.1.0 c.requires.1.1.1 c.loop-regs.invariant c.perform_and_settle-in-141.ensures c.if-perform_and_settle-50.false

pub returns-then-perform_and_settle-51 : goal.returns-then-perform_and_settle-51
returns-then-perform_and_settle-51 g c = comes_to_end c.requires.1.0 c.requires.1.1.1 c.loop-regs.invariant c.perform_and_settle-in-142.ensures c.if-perform_and_settle-51.true

pub loop-regs-preserved-else-perform_and_settle-51 : goal.loop-regs-preserved-else-perform_and_settle-51
loop-regs-preserved-else-perform_and_settle-51 g c = comes_on c.requires.1.0 c.requires.1.1.1 c.loop-regs.invariant c.perform_and_settle-in-142.ensures c.if-perform_and_settle-51.false

pub loop-regs-smaller-else-perform_and_settle-51 : goal.loop-regs-smaller-else-perform_and_settle-51
loop-regs-smaller-else-perform_and_settle-51 g c = comes_nearer c.requires.1.0 c.requires.1.1.1 c.loop-regs.invariant c.perform_and_settle-in-142.ensures c.if-perform_and_settle-51.false

pub returns-then-perform_and_settle-52 : goal.returns-then-perform_and_settle-52
returns-then-perform_and_settle-52 g c = comes_to_end c.requires.1.0 c.requires.1.1.1 c.loop-regs.invariant c.perform_and_settle-in-144.ensures c.if-perform_and_settle-52.true

pub loop-regs-preserved-else-perform_and_settle-52 : goal.loop-regs-preserved-else-perform_and_settle-52
loop-regs-preserved-else-perform_and_settle-52 g c = comes_on c.requires.1.0 c.requires.1.1.1 c.loop-regs.invariant c.perform_and_settle-in-144.ensures c.if-perform_and_settle-52.false

pub loop-regs-smaller-else-perform_and_settle-52 : goal.loop-regs-smaller-else-perform_and_settle-52
loop-regs-smaller-else-perform_and_settle-52 g c = comes_nearer c.requires.1.0 c.requires.1.1.1 c.loop-regs.invariant c.perform_and_settle-in-144.ensures c.if-perform_and_settle-52.false

pub returns-then-perform_and_settle-53 : goal.returns-then-perform_and_settle-53
returns-then-perform_and_settle-53 g c = comes_to_end c.requires.1.0 c.requires.1.1.1 c.loop-regs.invariant c.perform_and_settle-in-145.ensures c.if-perform_and_settle-53.true

pub loop-regs-preserved-else-perform_and_settle-53 : goal.loop-regs-preserved-else-perform_and_settle-53
loop-regs-preserved-else-perform_and_settle-53 g c = comes_on c.requires.1.0 c.requires.1.1.1 c.loop-regs.invariant c.perform_and_settle-in-145.ensures c.if-perform_and_settle-53.false

pub loop-regs-smaller-else-perform_and_settle-53 : goal.loop-regs-smaller-else-perform_and_settle-53
loop-regs-smaller-else-perform_and_settle-53 g c = comes_nearer c.requires.1.0 c.requires.1.1.1 c.loop-regs.invariant c.perform_and_settle-in-145.ensures c.if-perform_and_settle-53.false

pub returns-then-perform_and_settle-54 : goal.returns-then-perform_and_settle-54
returns-then-perform_and_settle-54 g c = comes_to_end c.requires.1.0 c.requires.1.1.1 c.loop-regs.invariant c.perform_and_settle-in-148.ensures c.if-perform_and_settle-54.true

pub loop-regs-preserved-else-perform_and_settle-54 : goal.loop-regs-preserved-else-perform_and_settle-54
loop-regs-preserved-else-perform_and_settle-54 g c = comes_on c.requires.1.0 c.requires.1.1.1 c.loop-regs.invariant c.perform_and_settle-in-148.ensures c.if-perform_and_settle-54.false

pub loop-regs-smaller-else-perform_and_settle-54 : goal.loop-regs-smaller-else-perform_and_settle-54
loop-regs-smaller-else-perform_and_settle-54 g c = comes_nearer c.requires.1.0 c.requires.1.1.1 c.loop-regs.invariant c.perform_and_settle-in-148.ensures c.if-perform_and_settle-54.false

pub returns-then-perform_and_settle-55 : goal.returns-then-perform_and_settle-55
returns-then-perform_and_settle-55 g c = comes_to_end c.requires.1.0 c.requires.1.1.1 c.loop-regs.invariant c.perform_and_settle-in-149.ensures c.if-perform_and_settle-55.true

pub loop-regs-preserved-else-perform_and_settle-55 : goal.loop-regs-preserved-else-perform_and_settle-55
loop-regs-preserved-else-perform_and_settle-55 g c = comes_on c.requires.1.0 c.requires.1.1.1 c.loop-regs.invariant c.perform_and_settle-in-149.ensures c.if-perform_and_settle-55.false

pub loop-regs-smaller-else-perform_and_settle-55 : goal.loop-regs-smaller-else-perform_and_settle-55
loop-regs-smaller-else-perform_and_settle-55 g c = comes_nearer c.requires.1.0 c.requires.1.1.1 c.loop-regs.invariant c.perform_and_settle-in-149.ensures c.if-perform_and_settle-55.false

pub returns-then-perform_and_settle-56 : goal.returns-then-perform_and_settle-56
returns-then-perform_and_settle-56 g c = comes_to_end c.requires.1.0 c.requires.1.1.1 c.loop-regs.invariant c.perform_and_settle-in-152.ensures c.if-perform_and_settle-56.true

pub loop-regs-preserved-else-perform_and_settle-56 : goal.loop-regs-preserved-else-perform_and_settle-56
loop-regs-preserved-else-perform_and_settle-56 g c = comes_on c.requires.1.0 c.requires.1.1.1 c.loop-regs.invariant c.perform_and_settle-in-152.ensures c.if-perform_and_settle-56.false

pub loop-regs-smaller-else-perform_and_settle-56 : goal.loop-regs-smaller-else-perform_and_settle-56
loop-regs-smaller-else-perform_and_settle-56 g c = comes_nearer c.requires.1.0 c.requires.1.1.1 c.loop-regs.invariant c.perform_and_settle-in-152.ensures c.if-perform_and_settle-56.false

pub returns-then-perform_and_settle-57 : goal.returns-then-perform_and_settle-57
returns-then-perform_and_settle-57 g c = comes_to_end c.requires.1.0 c.requires.1.1.1 c.loop-regs.invariant c.perform_and_settle-in-153.ensures c.if-perform_and_settle-57.true

pub loop-regs-preserved-else-perform_and_settle-57 : goal.loop-regs-preserved-else-perform_and_settle-57
loop-regs-preserved-else-perform_and_settle-57 g c = comes_on c.requires.1.0 c.requires.1.1.1 c.loop-regs.invariant c.perform_and_settle-in-153.ensures c.if-perform_and_settle-57.false

pub loop-regs-smaller-else-perform_and_settle-57 : goal.loop-regs-smaller-else-perform_and_settle-57
loop-regs-smaller-else-perform_and_settle-57 g c = comes_nearer c.requires.1.0 c.requires.1.1.1 c.loop-regs.invariant c.perform_and_settle-in-153.ensures c.if-perform_and_settle-57.false

pub returns-then-perform_and_settle-58 : goal.returns-then-perform_and_settle-58
returns-then-perform_and_settle-58 g c = comes_to_end c.requires.1.0 c.requires.1.1.1 c.loop-regs.invariant c.perform_and_settle-in-154.ensures c.if-perform_and_settle-58.true

pub loop-regs-preserved-else-perform_and_settle-58 : goal.loop-regs-preserved-else-perform_and_settle-58
loop-regs-preserved-else-perform_and_settle-58 g c = comes_on c.requires.1.0 c.requires.1.1.1 c.loop-regs.invariant c.perform_and_settle-in-154.ensures c.if-perform_and_settle-58.false

pub loop-regs-smaller-else-perform_and_settle-58 : goal.loop-regs-smaller-else-perform_and_settle-58
loop-regs-smaller-else-perform_and_settle-58 g c = comes_nearer c.requires.1.0 c.requires.1.1.1 c.loop-regs.invariant c.perform_and_settle-in-154.ensures c.if-perform_and_settle-58.false

pub returns-then-perform_and_settle-59 : goal.returns-then-perform_and_settle-59
returns-then-perform_and_settle-59 g c = comes_to_end c.requires.1.0 c.requires.1.1.1 c.loop-regs.invariant c.perform_and_settle-in-157.ensures c.if-perform_and_settle-59.true

pub loop-regs-preserved-else-perform_and_settle-59 : goal.loop-regs-preserved-else-perform_and_settle-59
loop-regs-preserved-else-perform_and_settle-59 g c = comes_on c.requires.1.0 c.requires.1.1.1 c.loop-regs.invariant c.perform_and_settle-in-157.ensures c.if-perform_and_settle-59.false

pub loop-regs-smaller-else-perform_and_settle-59 : goal.loop-regs-smaller-else-perform_and_settle-59
loop-regs-smaller-else-perform_and_settle-59 g c = comes_nearer c.requires.1.0 c.requires.1.1.1 c.loop-regs.invariant c.perform_and_settle-in-157.ensures c.if-perform_and_settle-59.false

pub returns-then-perform_and_settle-60 : goal.returns-then-perform_and_settle-60
returns-then-perform_and_settle-60 g c = comes_to_end c.requires.1.0 c.requires.1.1.1 c.loop-regs.invariant c.perform_and_settle-in-160.ensures c.if-perform_and_settle-60.true

pub loop-regs-preserved-else-perform_and_settle-60 : goal.loop-regs-preserved-else-perform_and_settle-60
loop-regs-preserved-else-perform_and_settle-60 g c = comes_on c.requires.1.0 c.requires.1.1.1 c.loop-regs.invariant c.perform_and_settle-in-160.ensures c.if-perform_and_settle-60.false

pub loop-regs-smaller-else-perform_and_settle-60 : goal.loop-regs-smaller-else-perform_and_settle-60
loop-regs-smaller-else-perform_and_settle-60 g c = comes_nearer c.requires.1.0 c.requires.1.1.1 c.loop-regs.invariant c.perform_and_settle-in-160.ensures c.if-perform_and_settle-60.false

pub returns-then-perform_and_settle-61 : goal.returns-then-perform_and_settle-61
returns-then-perform_and_settle-61 g c = comes_to_end c.requires.1.0 c.requires.1.1.1 c.loop-regs.invariant c.perform_and_settle-in-162.ensures c.if-perform_and_settle-61.true

pub loop-regs-preserved-else-perform_and_settle-61 : goal.loop-regs-preserved-else-perform_and_settle-61
loop-regs-preserved-else-perform_and_settle-61 g c = comes_on c.requires.1.0 c.requires.1.1.1 c.loop-regs.invariant c.perform_and_settle-in-162.ensures c.if-perform_and_settle-61.false

pub loop-regs-smaller-else-perform_and_settle-61 : goal.loop-regs-smaller-else-perform_and_settle-61
loop-regs-smaller-else-perform_and_settle-61 g c = comes_nearer c.requires.1.0 c.requires.1.1.1 c.loop-regs.invariant c.perform_and_settle-in-162.ensures c.if-perform_and_settle-61.false

pub returns-then-perform_and_settle-62 : goal.returns-then-perform_and_settle-62
returns-then-perform_and_settle-62 g c = comes_to_end c.requires.1.0 c.requires.1.1.1 c.loop-regs.invariant c.perform_and_settle-in-164.ensures c.if-perform_and_settle-62.true

pub loop-regs-preserved-else-perform_and_settle-62 : goal.loop-regs-preserved-else-perform_and_settle-62
loop-regs-preserved-else-perform_and_settle-62 g c = comes_on c.requires.1.0 c.requires.1.1.1 c.loop-regs.invariant c.perform_and_settle-in-164.ensures c.if-perform_and_settle-62.false

pub loop-regs-smaller-else-perform_and_settle-62 : goal.loop-regs-smaller-else-perform_and_settle-62
loop-regs-smaller-else-perform_and_settle-62 g c = comes_nearer c.requires.1.0 c.requires.1.1.1 c.loop-regs.invariant c.perform_and_settle-in-164.ensures c.if-perform_and_settle-62.false

pub returns-then-perform_and_settle-63 : goal.returns-then-perform_and_settle-63
returns-then-perform_and_settle-63 g c = comes_to_end c.requires.1.0 c.requires.1.1.1 c.loop-regs.invariant c.perform_and_settle-in-165.ensures c.if-perform_and_settle-63.true

pub loop-regs-preserved-else-perform_and_settle-63 : goal.loop-regs-preserved-else-perform_and_settle-63
loop-regs-preserved-else-perform_and_settle-63 g c = comes_on c.requires.1.0 c.requires.1.1.1 c.loop-regs.invariant c.perform_and_settle-in-165.ensures c.if-perform_and_settle-63.false

pub loop-regs-smaller-else-perform_and_settle-63 : goal.loop-regs-smaller-else-perform_and_settle-63
loop-regs-smaller-else-perform_and_settle-63 g c = comes_nearer c.requires.1.0 c.requires.1.1.1 c.loop-regs.invariant c.perform_and_settle-in-165.ensures c.if-perform_and_settle-63.false

pub returns-then-perform_and_settle-64 : goal.returns-then-perform_and_settle-64
returns-then-perform_and_settle-64 g c = comes_to_end c.requires.1.0 c.requires.1.1.1 c.loop-regs.invariant c.perform_and_settle-in-166.ensures c.if-perform_and_settle-64.true

pub loop-regs-preserved-else-perform_and_settle-64 : goal.loop-regs-preserved-else-perform_and_settle-64
loop-regs-preserved-else-perform_and_settle-64 g c = comes_on c.requires.1.0 c.requires.1.1.1 c.loop-regs.invariant c.perform_and_settle-in-166.ensures c.if-perform_and_settle-64.false

pub loop-regs-smaller-else-perform_and_settle-64 : goal.loop-regs-smaller-else-perform_and_settle-64
loop-regs-smaller-else-perform_and_settle-64 g c = comes_nearer c.requires.1.0 c.requires.1.1.1 c.loop-regs.invariant c.perform_and_settle-in-166.ensures c.if-perform_and_settle-64.false

pub returns-then-perform_and_settle-65 : goal.returns-then-perform_and_settle-65
returns-then-perform_and_settle-65 g c = comes_to_end c.requires.1.0 c.requires.1.1.1 c.loop-regs.invariant c.perform_and_settle-in-168.ensures c.if-perform_and_settle-65.true

pub loop-regs-preserved-else-perform_and_settle-65 : goal.loop-regs-preserved-else-perform_and_settle-65
loop-regs-preserved-else-perform_and_settle-65 g c = comes_on c.requires.1.0 c.requires.1.1.1 c.loop-regs.invariant c.perform_and_settle-in-168.ensures c.if-perform_and_settle-65.false

pub loop-regs-smaller-else-perform_and_settle-65 : goal.loop-regs-smaller-else-perform_and_settle-65
loop-regs-smaller-else-perform_and_settle-65 g c = comes_nearer c.requires.1.0 c.requires.1.1.1 c.loop-regs.invariant c.perform_and_settle-in-168.ensures c.if-perform_and_settle-65.false

pub returns-then-perform_and_settle-66 : goal.returns-then-perform_and_settle-66
returns-then-perform_and_settle-66 g c = comes_to_end c.requires.1.0 c.requires.1.1.1 c.loop-regs.invariant c.perform_and_settle-in-169.ensures c.if-perform_and_settle-66.true

pub loop-regs-preserved-else-perform_and_settle-66 : goal.loop-regs-preserved-else-perform_and_settle-66
loop-regs-preserved-else-perform_and_settle-66 g c = comes_on c.requires.1.0 c.requires.1.1.1 c.loop-regs.invariant c.perform_and_settle-in-169.ensures c.if-perform_and_settle-66.false

pub loop-regs-smaller-else-perform_and_settle-66 : goal.loop-regs-smaller-else-perform_and_settle-66
loop-regs-smaller-else-perform_and_settle-66 g c = comes_nearer c.requires.1.0 c.requires.1.1.1 c.loop-regs.invariant c.perform_and_settle-in-169.ensures c.if-perform_and_settle-66.false

pub returns-then-perform_and_settle-67 : goal.returns-then-perform_and_settle-67
returns-then-perform_and_settle-67 g c = comes_to_end c.requires.1.0 c.requires.1.1.1 c.loop-regs.invariant c.perform_and_settle-in-170.ensures c.if-perform_and_settle-67.true

pub loop-regs-preserved-else-perform_and_settle-67 : goal.loop-regs-preserved-else-perform_and_settle-67
loop-regs-preserved-else-perform_and_settle-67 g c = comes_on c.requires.1.0 c.requires.1.1.1 c.loop-regs.invariant c.perform_and_settle-in-170.ensures c.if-perform_and_settle-67.false

pub loop-regs-smaller-else-perform_and_settle-67 : goal.loop-regs-smaller-else-perform_and_settle-67
loop-regs-smaller-else-perform_and_settle-67 g c = comes_nearer c.requires.1.0 c.requires.1.1.1 c.loop-regs.invariant c.perform_and_settle-in-170.ensures c.if-perform_and_settle-67.false

pub returns-then-perform_and_settle-68 : goal.returns-then-perform_and_settle-68
returns-then-perform_and_settle-68 g c = comes_to_end c.requires.1.0 c.requires.1.1.1 c.loop-regs.invariant c.perform_and_settle-in-172.ensures c.if-perform_and_settle-68.true

pub loop-regs-preserved-else-perform_and_settle-68 : goal.loop-regs-preserved-else-perform_and_settle-68
loop-regs-preserved-else-perform_and_settle-68 g c = comes_on c.requires.1.0 c.requires.1.1.1 c.loop-regs.invariant c.perform_and_settle-in-172.ensures c.if-perform_and_settle-68.false

pub loop-regs-smaller-else-perform_and_settle-68 : goal.loop-regs-smaller-else-perform_and_settle-68
loop-regs-smaller-else-perform_and_settle-68 g c = comes_nearer c.requires.1.0 c.requires.1.1.1 c.loop-regs.invariant c.perform_and_settle-in-172.ensures c.if-perform_and_settle-68.false

pub returns-then-perform_and_settle-69 : goal.returns-then-perform_and_settle-69
returns-then-perform_and_settle-69 g c = comes_to_end c.requires.1.0 c.requires.1.1.1 c.loop-regs.invariant c.perform_and_settle-in-174.ensures c.if-perform_and_settle-69.true

pub loop-regs-preserved-else-perform_and_settle-69 : goal.loop-regs-preserved-else-perform_and_settle-69
loop-regs-preserved-else-perform_and_settle-69 g c = comes_on c.requires.1.0 c.requires.1.1.1 c.loop-regs.invariant c.perform_and_settle-in-174.ensures c.if-perform_and_settle-69.false

pub loop-regs-smaller-else-perform_and_settle-69 : goal.loop-regs-smaller-else-perform_and_settle-69
loop-regs-smaller-else-perform_and_settle-69 g c = comes_nearer c.requires.1.0 c.requires.1.1.1 c.loop-regs.invariant c.perform_and_settle-in-174.ensures c.if-perform_and_settle-69.false

pub returns-then-perform_and_settle-70 : goal.returns-then-perform_and_settle-70
returns-then-perform_and_settle-70 g c = comes_to_end c.requires.1.0 c.requires.1.1.1 c.loop-regs.invariant c.perform_and_settle-in-176.ensures c.if-perform_and_settle-70.true

pub loop-regs-preserved-else-perform_and_settle-70 : goal.loop-regs-preserved-else-perform_and_settle-70
loop-regs-preserved-else-perform_and_settle-70 g c = comes_on c.requires.1.0 c.requires.1.1.1 c.loop-regs.invariant c.perform_and_settle-in-176.ensures c.if-perform_and_settle-70.false

pub loop-regs-smaller-else-perform_and_settle-70 : goal.loop-regs-smaller-else-perform_and_settle-70
loop-regs-smaller-else-perform_and_settle-70 g c = comes_nearer c.requires.1.0 c.requires.1.1.1 c.loop-regs.invariant c.perform_and_settle-in-176.ensures c.if-perform_and_settle-70.false

pub returns-then-perform_and_settle-71 : goal.returns-then-perform_and_settle-71
returns-then-perform_and_settle-71 g c = comes_to_end c.requires.1.0 c.requires.1.1.1 c.loop-regs.invariant c.perform_and_settle-in-177.ensures c.if-perform_and_settle-71.true

pub loop-regs-preserved-else-perform_and_settle-71 : goal.loop-regs-preserved-else-perform_and_settle-71
loop-regs-preserved-else-perform_and_settle-71 g c = comes_on c.requires.1.0 c.requires.1.1.1 c.loop-regs.invariant c.perform_and_settle-in-177.ensures c.if-perform_and_settle-71.false

pub loop-regs-smaller-else-perform_and_settle-71 : goal.loop-regs-smaller-else-perform_and_settle-71
loop-regs-smaller-else-perform_and_settle-71 g c = comes_nearer c.requires.1.0 c.requires.1.1.1 c.loop-regs.invariant c.perform_and_settle-in-177.ensures c.if-perform_and_settle-71.false

pub returns-then-perform_and_settle-72 : goal.returns-then-perform_and_settle-72
returns-then-perform_and_settle-72 g c = comes_to_end c.requires.1.0 c.requires.1.1.1 c.loop-regs.invariant c.perform_and_settle-in-180.ensures c.if-perform_and_settle-72.true

pub loop-regs-preserved-else-perform_and_settle-72 : goal.loop-regs-preserved-else-perform_and_settle-72
loop-regs-preserved-else-perform_and_settle-72 g c = comes_on c.requires.1.0 c.requires.1.1.1 c.loop-regs.invariant c.perform_and_settle-in-180.ensures c.if-perform_and_settle-72.false

pub loop-regs-smaller-else-perform_and_settle-72 : goal.loop-regs-smaller-else-perform_and_settle-72
loop-regs-smaller-else-perform_and_settle-72 g c = comes_nearer c.requires.1.0 c.requires.1.1.1 c.loop-regs.invariant c.perform_and_settle-in-180.ensures c.if-perform_and_settle-72.false

pub returns-then-perform_and_settle-73 : goal.returns-then-perform_and_settle-73
returns-then-perform_and_settle-73 g c = comes_to_end c.requires.1.0 c.requires.1.1.1 c.loop-regs.invariant c.perform_and_settle-in-181.ensures c.if-perform_and_settle-73.true

pub loop-regs-preserved-else-perform_and_settle-73 : goal.loop-regs-preserved-else-perform_and_settle-73
loop-regs-preserved-else-perform_and_settle-73 g c = comes_on c.requires.1.0 c.requires.1.1.1 c.loop-regs.invariant c.perform_and_settle-in-181.ensures c.if-perform_and_settle-73.false

pub loop-regs-smaller-else-perform_and_settle-73 : goal.loop-regs-smaller-else-perform_and_settle-73
loop-regs-smaller-else-perform_and_settle-73 g c = comes_nearer c.requires.1.0 c.requires.1.1.1 c.loop-regs.invariant c.perform_and_settle-in-181.ensures c.if-perform_and_settle-73.false

pub returns-then-perform_and_settle-74 : goal.returns-then-perform_and_settle-74
returns-then-perform_and_settle-74 g c = comes_to_end c.requires.1.0 c.requires.1.1.1 c.loop-regs.invariant c.perform_and_settle-in-185.ensures c.if-perform_and_settle-74.true

pub loop-regs-preserved-else-perform_and_settle-74 : goal.loop-regs-preserved-else-perform_and_settle-74
loop-regs-preserved-else-perform_and_settle-74 g c = comes_on c.requires.1.0 c.requires.1.1.1 c.loop-regs.invariant c.perform_and_settle-in-185.ensures c.if-perform_and_settle-74.false

pub loop-regs-smaller-else-perform_and_settle-74 : goal.loop-regs-smaller-else-perform_and_settle-74
loop-regs-smaller-else-perform_and_settle-74 g c = comes_nearer c.requires.1.0 c.requires.1.1.1 c.loop-regs.invariant c.perform_and_settle-in-185.ensures c.if-perform_and_settle-74.false

pub returns-then-perform_and_settle-75 : goal.returns-then-perform_and_settle-75
returns-then-perform_and_settle-75 g c = comes_to_end c.requires.1.0 c.requires.1.1.1 c.loop-regs.invariant c.perform_and_settle-in-186.ensures c.if-perform_and_settle-75.true

pub loop-regs-preserved-else-perform_and_settle-75 : goal.loop-regs-preserved-else-perform_and_settle-75
loop-regs-preserved-else-perform_and_settle-75 g c = comes_on c.requires.1.0 c.requires.1.1.1 c.loop-regs.invariant c.perform_and_settle-in-186.ensures c.if-perform_and_settle-75.false

pub loop-regs-smaller-else-perform_and_settle-75 : goal.loop-regs-smaller-else-perform_and_settle-75
loop-regs-smaller-else-perform_and_settle-75 g c = comes_nearer c.requires.1.0 c.requires.1.1.1 c.loop-regs.invariant c.perform_and_settle-in-186.ensures c.if-perform_and_settle-75.false

pub returns-then-perform_and_settle-76 : goal.returns-then-perform_and_settle-76
returns-then-perform_and_settle-76 g c = comes_to_end c.requires.1.0 c.requires.1.1.1 c.loop-regs.invariant c.perform_and_settle-in-188.ensures c.if-perform_and_settle-76.true

pub loop-regs-preserved-else-perform_and_settle-76 : goal.loop-regs-preserved-else-perform_and_settle-76
loop-regs-preserved-else-perform_and_settle-76 g c = comes_on c.requires.1.0 c.requires.1.1.1 c.loop-regs.invariant c.perform_and_settle-in-188.ensures c.if-perform_and_settle-76.false

pub loop-regs-smaller-else-perform_and_settle-76 : goal.loop-regs-smaller-else-perform_and_settle-76
loop-regs-smaller-else-perform_and_settle-76 g c = comes_nearer c.requires.1.0 c.requires.1.1.1 c.loop-regs.invariant c.perform_and_settle-in-188.ensures c.if-perform_and_settle-76.false

pub returns-then-perform_and_settle-77 : goal.returns-then-perform_and_settle-77
returns-then-perform_and_settle-77 g c = comes_to_end c.requires.1.0 c.requires.1.1.1 c.loop-regs.invariant c.perform_and_settle-in-189.ensures c.if-perform_and_settle-77.true

pub loop-regs-preserved-else-perform_and_settle-77 : goal.loop-regs-preserved-else-perform_and_settle-77
loop-regs-preserved-else-perform_and_settle-77 g c = comes_on c.requires.1.0 c.requires.1.1.1 c.loop-regs.invariant c.perform_and_settle-in-189.ensures c.if-perform_and_settle-77.false

pub loop-regs-smaller-else-perform_and_settle-77 : goal.loop-regs-smaller-else-perform_and_settle-77
loop-regs-smaller-else-perform_and_settle-77 g c = comes_nearer c.requires.1.0 c.requires.1.1.1 c.loop-regs.invariant c.perform_and_settle-in-189.ensures c.if-perform_and_settle-77.false

pub returns-then-perform_and_settle-78 : goal.returns-then-perform_and_settle-78
returns-then-perform_and_settle-78 g c = comes_to_end c.requires.1.0 c.requires.1.1.1 c.loop-regs.invariant c.perform_and_settle-in-190.ensures c.if-perform_and_settle-78.true

pub loop-regs-preserved-else-perform_and_settle-78 : goal.loop-regs-preserved-else-perform_and_settle-78
loop-regs-preserved-else-perform_and_settle-78 g c = comes_on c.requires.1.0 c.requires.1.1.1 c.loop-regs.invariant c.perform_and_settle-in-190.ensures c.if-perform_and_settle-78.false

pub loop-regs-smaller-else-perform_and_settle-78 : goal.loop-regs-smaller-else-perform_and_settle-78
loop-regs-smaller-else-perform_and_settle-78 g c = comes_nearer c.requires.1.0 c.requires.1.1.1 c.loop-regs.invariant c.perform_and_settle-in-190.ensures c.if-perform_and_settle-78.false

pub returns-then-perform_and_settle-79 : goal.returns-then-perform_and_settle-79
returns-then-perform_and_settle-79 g c = comes_to_end c.requires.1.0 c.requires.1.1.1 c.loop-regs.invariant c.perform_and_settle-in-192.ensures c.if-perform_and_settle-79.true

pub loop-regs-preserved-else-perform_and_settle-79 : goal.loop-regs-preserved-else-perform_and_settle-79
loop-regs-preserved-else-perform_and_settle-79 g c = comes_on c.requires.1.0 c.requires.1.1.1 c.loop-regs.invariant c.perform_and_settle-in-192.ensures c.if-perform_and_settle-79.false

pub loop-regs-smaller-else-perform_and_settle-79 : goal.loop-regs-smaller-else-perform_and_settle-79
loop-regs-smaller-else-perform_and_settle-79 g c = comes_nearer c.requires.1.0 c.requires.1.1.1 c.loop-regs.invariant c.perform_and_settle-in-192.ensures c.if-perform_and_settle-79.false

pub returns-then-perform_and_settle-80 : goal.returns-then-perform_and_settle-80
returns-then-perform_and_settle-80 g c = comes_to_end c.requires.1.0 c.requires.1.1.1 c.loop-regs.invariant c.perform_and_settle-in-196.ensures c.if-perform_and_settle-80.true

pub loop-regs-preserved-else-perform_and_settle-80 : goal.loop-regs-preserved-else-perform_and_settle-80
loop-regs-preserved-else-perform_and_settle-80 g c = comes_on c.requires.1.0 c.requires.1.1.1 c.loop-regs.invariant c.perform_and_settle-in-196.ensures c.if-perform_and_settle-80.false

pub loop-regs-smaller-else-perform_and_settle-80 : goal.loop-regs-smaller-else-perform_and_settle-80
loop-regs-smaller-else-perform_and_settle-80 g c = comes_nearer c.requires.1.0 c.requires.1.1.1 c.loop-regs.invariant c.perform_and_settle-in-196.ensures c.if-perform_and_settle-80.false

pub returns-then-perform_and_settle-81 : goal.returns-then-perform_and_settle-81
returns-then-perform_and_settle-81 g c = comes_to_end c.requires.1.0 c.requires.1.1.1 c.loop-regs.invariant c.perform_and_settle-in-197.ensures c.if-perform_and_settle-81.true

pub loop-regs-preserved-else-perform_and_settle-81 : goal.loop-regs-preserved-else-perform_and_settle-81
loop-regs-preserved-else-perform_and_settle-81 g c = comes_on c.requires.1.0 c.requires.1.1.1 c.loop-regs.invariant c.perform_and_settle-in-197.ensures c.if-perform_and_settle-81.false

pub loop-regs-smaller-else-perform_and_settle-81 : goal.loop-regs-smaller-else-perform_and_settle-81
loop-regs-smaller-else-perform_and_settle-81 g c = comes_nearer c.requires.1.0 c.requires.1.1.1 c.loop-regs.invariant c.perform_and_settle-in-197.ensures c.if-perform_and_settle-81.false

pub returns-then-perform_and_settle-82 : goal.returns-then-perform_and_settle-82
returns-then-perform_and_settle-82 g c = comes_to_end c.requires.1.0 c.requires.1.1.1 c.loop-regs.invariant c.perform_and_settle-in-198.ensures c.if-perform_and_settle-82.true

pub loop-regs-preserved-else-perform_and_settle-82 : goal.loop-regs-preserved-else-perform_and_settle-82
loop-regs-preserved-else-perform_and_settle-82 g c = comes_on c.requires.1.0 c.requires.1.1.1 c.loop-regs.invariant c.perform_and_settle-in-198.ensures c.if-perform_and_settle-82.false

pub loop-regs-smaller-else-perform_and_settle-82 : goal.loop-regs-smaller-else-perform_and_settle-82
loop-regs-smaller-else-perform_and_settle-82 g c = comes_nearer c.requires.1.0 c.requires.1.1.1 c.loop-regs.invariant c.perform_and_settle-in-198.ensures c.if-perform_and_settle-82.false

pub returns-then-perform_and_settle-83 : goal.returns-then-perform_and_settle-83
returns-then-perform_and_settle-83 g c = comes_to_end c.requires.1.0 c.requires.1.1.1 c.loop-regs.invariant c.perform_and_settle-in-200.ensures c.if-perform_and_settle-83.true

pub loop-regs-preserved-else-perform_and_settle-83 : goal.loop-regs-preserved-else-perform_and_settle-83
loop-regs-preserved-else-perform_and_settle-83 g c = comes_on c.requires.1.0 c.requires.1.1.1 c.loop-regs.invariant c.perform_and_settle-in-200.ensures c.if-perform_and_settle-83.false

pub loop-regs-smaller-else-perform_and_settle-83 : goal.loop-regs-smaller-else-perform_and_settle-83
loop-regs-smaller-else-perform_and_settle-83 g c = comes_nearer c.requires.1.0 c.requires.1.1.1 c.loop-regs.invariant c.perform_and_settle-in-200.ensures c.if-perform_and_settle-83.false

pub returns-then-perform_and_settle-84 : goal.returns-then-perform_and_settle-84
returns-then-perform_and_settle-84 g c = comes_to_end c.requires.1.0 c.requires.1.1.1 c.loop-regs.invariant c.perform_and_settle-in-201.ensures c.if-perform_and_settle-84.true

pub loop-regs-preserved-else-perform_and_settle-84 : goal.loop-regs-preserved-else-perform_and_settle-84
loop-regs-preserved-else-perform_and_settle-84 g c = comes_on c.requires.1.0 c.requires.1.1.1 c.loop-regs.invariant c.perform_and_settle-in-201.ensures c.if-perform_and_settle-84.false

pub loop-regs-smaller-else-perform_and_settle-84 : goal.loop-regs-smaller-else-perform_and_settle-84
loop-regs-smaller-else-perform_and_settle-84 g c = comes_nearer c.requires.1.0 c.requires.1.1.1 c.loop-regs.invariant c.perform_and_settle-in-201.ensures c.if-perform_and_settle-84.false

pub returns-then-perform_and_settle-85 : goal.returns-then-perform_and_settle-85
returns-then-perform_and_settle-85 g c = comes_to_end c.requires.1.0 c.requires.1.1.1 c.loop-regs.invariant c.perform_and_settle-in-202.ensures c.if-perform_and_settle-85.true

pub loop-regs-preserved-else-perform_and_settle-85 : goal.loop-regs-preserved-else-perform_and_settle-85
loop-regs-preserved-else-perform_and_settle-85 g c = comes_on c.requires.1.0 c.requires.1.1.1 c.loop-regs.invariant c.perform_and_settle-in-202.ensures c.if-perform_and_settle-85.false

pub loop-regs-smaller-else-perform_and_settle-85 : goal.loop-regs-smaller-else-perform_and_settle-85
loop-regs-smaller-else-perform_and_settle-85 g c = comes_nearer c.requires.1.0 c.requires.1.1.1 c.loop-regs.invariant c.perform_and_settle-in-202.ensures c.if-perform_and_settle-85.false

pub returns-then-perform_and_settle-86 : goal.returns-then-perform_and_settle-86
returns-then-perform_and_settle-86 g c = comes_to_end c.requires.1.0 c.requires.1.1.1 c.loop-regs.invariant c.perform_and_settle-in-205.ensures c.if-perform_and_settle-86.true

pub loop-regs-preserved-else-perform_and_settle-86 : goal.loop-regs-preserved-else-perform_and_settle-86
loop-regs-preserved-else-perform_and_settle-86 g c = comes_on c.requires.1.0 c.requires.1.1.1 c.loop-regs.invariant c.perform_and_settle-in-205.ensures c.if-perform_and_settle-86.false

pub loop-regs-smaller-else-perform_and_settle-86 : goal.loop-regs-smaller-else-perform_and_settle-86
loop-regs-smaller-else-perform_and_settle-86 g c = comes_nearer c.requires.1.0 c.requires.1.1.1 c.loop-regs.invariant c.perform_and_settle-in-205.ensures c.if-perform_and_settle-86.false

pub returns-then-perform_and_settle-87 : goal.returns-then-perform_and_settle-87
returns-then-perform_and_settle-87 g c = comes_to_end c.requires.1.0 c.requires.1.1.1 c.loop-regs.invariant c.perform_and_settle-in-208.ensures c.if-perform_and_settle-87.true

pub loop-regs-preserved-else-perform_and_settle-87 : goal.loop-regs-preserved-else-perform_and_settle-87
loop-regs-preserved-else-perform_and_settle-87 g c = comes_on c.requires.1.0 c.requires.1.1.1 c.loop-regs.invariant c.perform_and_settle-in-208.ensures c.if-perform_and_settle-87.false

pub loop-regs-smaller-else-perform_and_settle-87 : goal.loop-regs-smaller-else-perform_and_settle-87
loop-regs-smaller-else-perform_and_settle-87 g c = comes_nearer c.requires.1.0 c.requires.1.1.1 c.loop-regs.invariant c.perform_and_settle-in-208.ensures c.if-perform_and_settle-87.false

pub returns-then-perform_and_settle-88 : goal.returns-then-perform_and_settle-88
returns-then-perform_and_settle-88 g c = comes_to_end c.requires.1.0 c.requires.1.1.1 c.loop-regs.invariant c.perform_and_settle-in-213.ensures c.if-perform_and_settle-88.true

pub loop-regs-preserved-else-perform_and_settle-88 : goal.loop-regs-preserved-else-perform_and_settle-88
loop-regs-preserved-else-perform_and_settle-88 g c = comes_on c.requires.1.0 c.requires.1.1.1 c.loop-regs.invariant c.perform_and_settle-in-213.ensures c.if-perform_and_settle-88.false

pub loop-regs-smaller-else-perform_and_settle-88 : goal.loop-regs-smaller-else-perform_and_settle-88
loop-regs-smaller-else-perform_and_settle-88 g c = comes_nearer c.requires.1.0 c.requires.1.1.1 c.loop-regs.invariant c.perform_and_settle-in-213.ensures c.if-perform_and_settle-88.false

pub returns-then-perform_and_settle-89 : goal.returns-then-perform_and_settle-89
returns-then-perform_and_settle-89 g c = comes_to_end c.requires.1.0 c.requires.1.1.1 c.loop-regs.invariant c.perform_and_settle-in-216.ensures c.if-perform_and_settle-89.true

pub loop-regs-preserved-else-perform_and_settle-89 : goal.loop-regs-preserved-else-perform_and_settle-89
loop-regs-preserved-else-perform_and_settle-89 g c = comes_on c.requires.1.0 c.requires.1.1.1 c.loop-regs.invariant c.perform_and_settle-in-216.ensures c.if-perform_and_settle-89.false

pub loop-regs-smaller-else-perform_and_settle-89 : goal.loop-regs-smaller-else-perform_and_settle-89
loop-regs-smaller-else-perform_and_settle-89 g c = comes_nearer c.requires.1.0 c.requires.1.1.1 c.loop-regs.invariant c.perform_and_settle-in-216.ensures c.if-perform_and_settle-89.false

pub returns-then-perform_and_settle-90 : goal.returns-then-perform_and_settle-90
returns-then-perform_and_settle-90 g c = comes_to_end c.requires.1.0 c.requires.1.1.1 c.loop-regs.invariant c.perform_and_settle-in-217.ensures c.if-perform_and_settle-90.true

pub loop-regs-preserved-else-perform_and_settle-90 : goal.loop-regs-preserved-else-perform_and_settle-90
loop-regs-preserved-else-perform_and_settle-90 g c = comes_on c.requires.1.0 c.requires.1.1.1 c.loop-regs.invariant c.perform_and_settle-in-217.ensures c.if-perform_and_settle-90.false

pub loop-regs-smaller-else-perform_and_settle-90 : goal.loop-regs-smaller-else-perform_and_settle-90
loop-regs-smaller-else-perform_and_settle-90 g c = comes_nearer c.requires.1.0 c.requires.1.1.1 c.loop-regs.invariant c.perform_and_settle-in-217.ensures c.if-perform_and_settle-90.false

pub returns-then-perform_and_settle-91 : goal.returns-then-perform_and_settle-91
returns-then-perform_and_settle-91 g c = comes_to_end c.requires.1.0 c.requires.1.1.1 c.loop-regs.invariant c.perform_and_settle-in-221.ensures c.if-perform_and_settle-91.true

pub loop-regs-preserved-else-perform_and_settle-91 : goal.loop-regs-preserved-else-perform_and_settle-91
loop-regs-preserved-else-perform_and_settle-91 g c = comes_on c.requires.1.0 c.requires.1.1.1 c.loop-regs.invariant c.perform_and_settle-in-221.ensures c.if-perform_and_settle-91.false

pub loop-regs-smaller-else-perform_and_settle-91 : goal.loop-regs-smaller-else-perform_and_settle-91
loop-regs-smaller-else-perform_and_settle-91 g c = comes_nearer c.requires.1.0 c.requires.1.1.1 c.loop-regs.invariant c.perform_and_settle-in-221.ensures c.if-perform_and_settle-91.false

pub returns-then-perform_and_settle-92 : goal.returns-then-perform_and_settle-92
returns-then-perform_and_settle-92 g c = comes_to_end c.requires.1.0 c.requires.1.1.1 c.loop-regs.invariant c.perform_and_settle-in-224.ensures c.if-perform_and_settle-92.true

pub loop-regs-preserved-else-perform_and_settle-92 : goal.loop-regs-preserved-else-perform_and_settle-92
loop-regs-preserved-else-perform_and_settle-92 g c = comes_on c.requires.1.0 c.requires.1.1.1 c.loop-regs.invariant c.perform_and_settle-in-224.ensures c.if-perform_and_settle-92.false

pub loop-regs-smaller-else-perform_and_settle-92 : goal.loop-regs-smaller-else-perform_and_settle-92
loop-regs-smaller-else-perform_and_settle-92 g c = comes_nearer c.requires.1.0 c.requires.1.1.1 c.loop-regs.invariant c.perform_and_settle-in-224.ensures c.if-perform_and_settle-92.false

pub returns-then-perform_and_settle-93 : goal.returns-then-perform_and_settle-93
returns-then-perform_and_settle-93 g c = comes_to_end c.requires.1.0 c.requires.1.1.1 c.loop-regs.invariant c.perform_and_settle-in-228.ensures c.if-perform_and_settle-93.true

pub loop-regs-preserved-else-perform_and_settle-93 : goal.loop-regs-preserved-else-perform_and_settle-93
loop-regs-preserved-else-perform_and_settle-93 g c = comes_on c.requires.1.0 c.requires.1.1.1 c.loop-regs.invariant c.perform_and_settle-in-228.ensures c.if-perform_and_settle-93.false

pub loop-regs-smaller-else-perform_and_settle-93 : goal.loop-regs-smaller-else-perform_and_settle-93
loop-regs-smaller-else-perform_and_settle-93 g c = comes_nearer c.requires.1.0 c.requires.1.1.1 c.loop-regs.invariant c.perform_and_settle-in-228.ensures c.if-perform_and_settle-93.false

pub returns-then-perform_and_settle-94 : goal.returns-then-perform_and_settle-94
returns-then-perform_and_settle-94 g c = comes_to_end c.requires.1.0 c.requires.1.1.1 c.loop-regs.invariant c.perform_and_settle-in-229.ensures c.if-perform_and_settle-94.true

pub loop-regs-preserved-else-perform_and_settle-94 : goal.loop-regs-preserved-else-perform_and_settle-94
loop-regs-preserved-else-perform_and_settle-94 g c = comes_on c.requires.1.0 c.requires.1.1.1 c.loop-regs.invariant c.perform_and_settle-in-229.ensures c.if-perform_and_settle-94.false

pub loop-regs-smaller-else-perform_and_settle-94 : goal.loop-regs-smaller-else-perform_and_settle-94
loop-regs-smaller-else-perform_and_settle-94 g c = comes_nearer c.requires.1.0 c.requires.1.1.1 c.loop-regs.invariant c.perform_and_settle-in-229.ensures c.if-perform_and_settle-94.false

pub returns-then-perform_and_settle-95 : goal.returns-then-perform_and_settle-95
returns-then-perform_and_settle-95 g c = comes_to_end c.requires.1.0 c.requires.1.1.1 c.loop-regs.invariant c.perform_and_settle-in-230.ensures c.if-perform_and_settle-95.true

pub loop-regs-preserved-else-perform_and_settle-95 : goal.loop-regs-preserved-else-perform_and_settle-95
loop-regs-preserved-else-perform_and_settle-95 g c = comes_on c.requires.1.0 c.requires.1.1.1 c.loop-regs.invariant c.perform_and_settle-in-230.ensures c.if-perform_and_settle-95.false

pub loop-regs-smaller-else-perform_and_settle-95 : goal.loop-regs-smaller-else-perform_and_settle-95
loop-regs-smaller-else-perform_and_settle-95 g c = comes_nearer c.requires.1.0 c.requires.1.1.1 c.loop-regs.invariant c.perform_and_settle-in-230.ensures c.if-perform_and_settle-95.false

pub returns-then-perform_and_settle-96 : goal.returns-then-perform_and_settle-96
returns-then-perform_and_settle-96 g c = comes_to_end c.requires.1.0 c.requires.1.1.1 c.loop-regs.invariant c.perform_and_settle-in-232.ensures c.if-perform_and_settle-96.true

pub loop-regs-preserved-else-perform_and_settle-96 : goal.loop-regs-preserved-else-perform_and_settle-96
loop-regs-preserved-else-perform_and_settle-96 g c = comes_on c.requires.1.0 c.requires.1.1.1 c.loop-regs.invariant c.perform_and_settle-in-232.ensures c.if-perform_and_settle-96.false

pub loop-regs-smaller-else-perform_and_settle-96 : goal.loop-regs-smaller-else-perform_and_settle-96
loop-regs-smaller-else-perform_and_settle-96 g c = comes_nearer c.requires.1.0 c.requires.1.1.1 c.loop-regs.invariant c.perform_and_settle-in-232.ensures c.if-perform_and_settle-96.false

pub returns-then-perform_and_settle-97 : goal.returns-then-perform_and_settle-97
returns-then-perform_and_settle-97 g c = comes_to_end c.requires.1.0 c.requires.1.1.1 c.loop-regs.invariant c.perform_and_settle-in-233.ensures c.if-perform_and_settle-97.true

pub loop-regs-preserved-else-perform_and_settle-97 : goal.loop-regs-preserved-else-perform_and_settle-97
loop-regs-preserved-else-perform_and_settle-97 g c = comes_on c.requires.1.0 c.requires.1.1.1 c.loop-regs.invariant c.perform_and_settle-in-233.ensures c.if-perform_and_settle-97.false

pub loop-regs-smaller-else-perform_and_settle-97 : goal.loop-regs-smaller-else-perform_and_settle-97
loop-regs-smaller-else-perform_and_settle-97 g c = comes_nearer c.requires.1.0 c.requires.1.1.1 c.loop-regs.invariant c.perform_and_settle-in-233.ensures c.if-perform_and_settle-97.false

pub returns-then-perform_and_settle-98 : goal.returns-then-perform_and_settle-98
returns-then-perform_and_settle-98 g c = comes_to_end c.requires.1.0 c.requires.1.1.1 c.loop-regs.invariant c.perform_and_settle-in-234.ensures c.if-perform_and_settle-98.true

pub loop-regs-preserved-else-perform_and_settle-98 : goal.loop-regs-preserved-else-perform_and_settle-98
loop-regs-preserved-else-perform_and_settle-98 g c = comes_on c.requires.1.0 c.requires.1.1.1 c.loop-regs.invariant c.perform_and_settle-in-234.ensures c.if-perform_and_settle-98.false

pub loop-regs-smaller-else-perform_and_settle-98 : goal.loop-regs-smaller-else-perform_and_settle-98
loop-regs-smaller-else-perform_and_settle-98 g c = comes_nearer c.requires.1.0 c.requires.1.1.1 c.loop-regs.invariant c.perform_and_settle-in-234.ensures c.if-perform_and_settle-98.false

pub returns-then-perform_and_settle-99 : goal.returns-then-perform_and_settle-99
returns-then-perform_and_settle-99 g c = comes_to_end c.requires.1.0 c.requires.1.1.1 c.loop-regs.invariant c.perform_and_settle-in-240.ensures c.if-perform_and_settle-99.true

pub loop-regs-preserved-else-perform_and_settle-99 : goal.loop-regs-preserved-else-perform_and_settle-99
loop-regs-preserved-else-perform_and_settle-99 g c = comes_on c.requires.1.0 c.requires.1.1.1 c.loop-regs.invariant c.perform_and_settle-in-240.ensures c.if-perform_and_settle-99.false

pub loop-regs-smaller-else-perform_and_settle-99 : goal.loop-regs-smaller-else-perform_and_settle-99
loop-regs-smaller-else-perform_and_settle-99 g c = comes_nearer c.requires.1.0 c.requires.1.1.1 c.loop-regs.invariant c.perform_and_settle-in-240.ensures c.if-perform_and_settle-99.false

pub returns-then-perform_and_settle-100 : goal.returns-then-perform_and_settle-100
returns-then-perform_and_settle-100 g c = comes_to_end c.requires.1.0 c.requires.1.1.1 c.loop-regs.invariant c.perform_and_settle-in-245.ensures c.if-perform_and_settle-100.true

pub loop-regs-preserved-else-perform_and_settle-100 : goal.loop-regs-preserved-else-perform_and_settle-100
loop-regs-preserved-else-perform_and_settle-100 g c = comes_on c.requires.1.0 c.requires.1.1.1 c.loop-regs.invariant c.perform_and_settle-in-245.ensures c.if-perform_and_settle-100.false

pub loop-regs-smaller-else-perform_and_settle-100 : goal.loop-regs-smaller-else-perform_and_settle-100
loop-regs-smaller-else-perform_and_settle-100 g c = comes_nearer c.requires.1.0 c.requires.1.1.1 c.loop-regs.invariant c.perform_and_settle-in-245.ensures c.if-perform_and_settle-100.false

pub returns-then-perform_and_settle-101 : goal.returns-then-perform_and_settle-101
returns-then-perform_and_settle-101 g c = comes_to_end c.requires.1.0 c.requires.1.1.1 c.loop-regs.invariant c.perform_and_settle-in-249.ensures c.if-perform_and_settle-101.true

pub loop-regs-preserved-else-perform_and_settle-101 : goal.loop-regs-preserved-else-perform_and_settle-101
loop-regs-preserved-else-perform_and_settle-101 g c = comes_on c.requires.1.0 c.requires.1.1.1 c.loop-regs.invariant c.perform_and_settle-in-249.ensures c.if-perform_and_settle-101.false

pub loop-regs-smaller-else-perform_and_settle-101 : goal.loop-regs-smaller-else-perform_and_settle-101
loop-regs-smaller-else-perform_and_settle-101 g c = comes_nearer c.requires.1.0 c.requires.1.1.1 c.loop-regs.invariant c.perform_and_settle-in-249.ensures c.if-perform_and_settle-101.false

pub returns-then-perform_and_settle-102 : goal.returns-then-perform_and_settle-102
returns-then-perform_and_settle-102 g c = comes_to_end c.requires.1.0 c.requires.1.1.1 c.loop-regs.invariant c.perform_and_settle-in-253.ensures c.if-perform_and_settle-102.true

pub loop-regs-preserved-else-perform_and_settle-102 : goal.loop-regs-preserved-else-perform_and_settle-102
loop-regs-preserved-else-perform_and_settle-102 g c = comes_on c.requires.1.0 c.requires.1.1.1 c.loop-regs.invariant c.perform_and_settle-in-253.ensures c.if-perform_and_settle-102.false

pub loop-regs-smaller-else-perform_and_settle-102 : goal.loop-regs-smaller-else-perform_and_settle-102
loop-regs-smaller-else-perform_and_settle-102 g c = comes_nearer c.requires.1.0 c.requires.1.1.1 c.loop-regs.invariant c.perform_and_settle-in-253.ensures c.if-perform_and_settle-102.false

pub returns-then-go_on_by_load : goal.returns-then-go_on_by_load
returns-then-go_on_by_load g c = comes_to_end c.requires.1.0 c.requires.1.1.1 c.loop-regs.invariant c.go_on_by_load.ensures c.if-go_on_by_load.true

pub loop-regs-preserved-else-go_on_by_load : goal.loop-regs-preserved-else-go_on_by_load
loop-regs-preserved-else-go_on_by_load g c = comes_on c.requires.1.0 c.requires.1.1.1 c.loop-regs.invariant c.go_on_by_load.ensures c.if-go_on_by_load.false

pub loop-regs-smaller-else-go_on_by_load : goal.loop-regs-smaller-else-go_on_by_load
loop-regs-smaller-else-go_on_by_load g c = comes_nearer c.requires.1.0 c.requires.1.1.1 c.loop-regs.invariant c.go_on_by_load.ensures c.if-go_on_by_load.false

pub returns-then-go_on_by_store : goal.returns-then-go_on_by_store
returns-then-go_on_by_store g c = comes_to_end c.requires.1.0 c.requires.1.1.1 c.loop-regs.invariant c.go_on_by_store.ensures c.if-go_on_by_store.true

pub loop-regs-preserved-else-go_on_by_store : goal.loop-regs-preserved-else-go_on_by_store
loop-regs-preserved-else-go_on_by_store g c = comes_on c.requires.1.0 c.requires.1.1.1 c.loop-regs.invariant c.go_on_by_store.ensures c.if-go_on_by_store.false

pub loop-regs-smaller-else-go_on_by_store : goal.loop-regs-smaller-else-go_on_by_store
loop-regs-smaller-else-go_on_by_store g c = comes_nearer c.requires.1.0 c.requires.1.1.1 c.loop-regs.invariant c.go_on_by_store.ensures c.if-go_on_by_store.false

pub returns-then-go_on_by_store-2 : goal.returns-then-go_on_by_store-2
returns-then-go_on_by_store-2 g c = comes_to_end c.requires.1.0 c.requires.1.1.1 c.loop-regs.invariant c.go_on_by_store-in-133.ensures c.if-go_on_by_store-2.true

pub loop-regs-preserved-else-go_on_by_store-2 : goal.loop-regs-preserved-else-go_on_by_store-2
loop-regs-preserved-else-go_on_by_store-2 g c = comes_on c.requires.1.0 c.requires.1.1.1 c.loop-regs.invariant c.go_on_by_store-in-133.ensures c.if-go_on_by_store-2.false

pub loop-regs-smaller-else-go_on_by_store-2 : goal.loop-regs-smaller-else-go_on_by_store-2
loop-regs-smaller-else-go_on_by_store-2 g c = comes_nearer c.requires.1.0 c.requires.1.1.1 c.loop-regs.invariant c.go_on_by_store-in-133.ensures c.if-go_on_by_store-2.false

pub returns-then-go_on_by_store-3 : goal.returns-then-go_on_by_store-3
returns-then-go_on_by_store-3 g c = comes_to_end c.requires.1.0 c.requires.1.1.1 c.loop-regs.invariant c.go_on_by_store-in-134.ensures c.if-go_on_by_store-3.true

pub loop-regs-preserved-else-go_on_by_store-3 : goal.loop-regs-preserved-else-go_on_by_store-3
loop-regs-preserved-else-go_on_by_store-3 g c = comes_on c.requires.1.0 c.requires.1.1.1 c.loop-regs.invariant c.go_on_by_store-in-134.ensures c.if-go_on_by_store-3.false

pub loop-regs-smaller-else-go_on_by_store-3 : goal.loop-regs-smaller-else-go_on_by_store-3
loop-regs-smaller-else-go_on_by_store-3 g c = comes_nearer c.requires.1.0 c.requires.1.1.1 c.loop-regs.invariant c.go_on_by_store-in-134.ensures c.if-go_on_by_store-3.false

pub returns-then-over : goal.returns-then-over
returns-then-over g c = comes_to_end c.requires.1.0 c.requires.1.1.1 c.loop-regs.invariant c.perform_any-over.ensures c.if-over.true

pub loop-regs-preserved : goal.loop-regs-preserved
loop-regs-preserved g c = comes_on c.requires.1.0 c.requires.1.1.1 c.loop-regs.invariant c.perform_any-over.ensures c.if-over.false

pub loop-regs-smaller : goal.loop-regs-smaller
loop-regs-smaller g c = comes_nearer c.requires.1.0 c.requires.1.1.1 c.loop-regs.invariant c.perform_any-over.ensures c.if-over.false
