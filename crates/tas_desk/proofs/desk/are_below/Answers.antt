use Rattle.std.proofs.Common.{◌<◌, sym, subst, refl, arith, rules}
use Rattle.tas_desk.specs.Seats.{SeatContent}
use Rattle.tas_desk.proofs.SeatLemmas.{below_more}
use Rattle.tas_desk.proofs.desk.are_below.Goals as goal

pub loop-k-preserved : goal.loop-k-preserved
loop-k-preserved g c =
    let low : c.index-seats-k.result.number < c.args.n = (let b = c.number.ensures in let f = c.if-number-n.false in omega (arith, b, f)) in
    below_more c.args.seats.now c.args.n c.loop-k.k c.index-seats-k.result c.loop-k.invariant c.loop-k-test.true c.index-seats-k.is low

pub returns-then-number-n : goal.returns-then-number-n
returns-then-number-n g c = (
  λ t. absurd (search rules),
  λ all. absurd (let low = subst (λ (s : SeatContent _). s.number < c.args.n) (sym c.index-seats-k.is) (all c.loop-k.k c.index-seats-k.result c.loop-k-test.true) in let b = c.number.ensures in let f = c.if-number-n.true in omega (arith, low, b, f)),
)

pub returns : goal.returns
returns g c = (λ _ k d lt. c.loop-k.invariant k d (let all = c.loop-k-test.false in omega (arith, lt, all)), λ _. refl)
