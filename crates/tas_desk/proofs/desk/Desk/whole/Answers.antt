use Rattle.std.proofs.lemmas.Grind.{common_steps}
use Rattle.std.proofs.Common.{refl, arith, rules}
use Rattle.tas_desk.proofs.SeatLemmas.{once_more, whole_of}
use Rattle.tas_desk.proofs.desk.Desk.whole.Goals as goal

pub returns-then-count_of-gt1 : goal.returns-then-count_of-gt1
returns-then-count_of-gt1 g c = (λ t. absurd (search rules), λ w. absurd (let o = w.once c.loop-k.k in let t = c.count_of.ensures in let b = c.if-count_of-gt1.true in omega arith))

pub loop-k-preserved : goal.loop-k-preserved
loop-k-preserved g c = once_more c.args.seats.now c.loop-k.k c.loop-k.invariant (let t = c.count_of.ensures in let b = c.if-count_of-gt1.false in omega arith)

pub returns : goal.returns
returns g c = (λ _. whole_of _ _ c.args.seats.now c.loop-k.k c.self.invariant c.if-seats-self.false (c.are_below.ensures.0 c.if-not-are_below.false) c.loop-k-test.false c.loop-k.invariant, λ _. refl)

pub returns-then-seats-self : goal.returns-then-seats-self
returns-then-seats-self g c = grind (arith, common_steps)
