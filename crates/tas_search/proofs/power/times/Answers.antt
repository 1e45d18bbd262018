use Rattle.std.proofs.Common.{◌*◌, arith}
use Rattle.std.proofs.lemmas.Str.Parse.{digit_at}
use Rattle.tas_search.specs.Inside.Digits.{low_value}
use Rattle.tas_search.proofs.PowerLemmas.{digit_product, part_start, part_more, part_end, rest_more, rest_end}
use Rattle.tas_search.proofs.power.times.Goals as goal

pub overflow_sub-digit : goal.overflow_sub-digit
overflow_sub-digit g c = (digit_at c.args.digits.now c.loop-digit.digit-index c.requires.digits.all c.loop-digit-test.true).0

pub overflow_mul-sum : goal.overflow_mul-sum
overflow_mul-sum g c =
    let product = digit_product c.args.digits.now c.loop-digit.digit-index c.from.result c.args.factor c.requires.digits.all c.loop-digit-test.true c.from.ensures in
    let high = c.requires.high in
    omega (arith, product, high)

pub overflow_add-sum : goal.overflow_add-sum
overflow_add-sum g c =
    let product = digit_product c.args.digits.now c.loop-digit.digit-index c.from.result c.args.factor c.requires.digits.all c.loop-digit-test.true c.from.ensures in
    let high = c.requires.high in
    let below = c.loop-digit.invariant.below in
    omega (arith, product, high, below)

pub loop-digit-init : goal.loop-digit-init
loop-digit-init g c = part_start c.args.digits.now c.new-product.result.items c.args.factor c.new-product.ensures.items c.requires.low c.requires.digits.top

pub loop-digit-preserved : goal.loop-digit-preserved
loop-digit-preserved g c =
    part_more c.args.digits.now c.loop-digit.product.items c.push.new.self.items c.loop-digit.digit-index c.args.factor c.loop-digit.carry c.from.result c.requires.digits.all c.requires.digits.top c.loop-digit-test.true
    c.from.ensures c.in_ok-push.ensures.items c.loop-digit.invariant

pub loop-carry-init : goal.loop-carry-init
loop-carry-init g c = part_end c.args.digits.now c.loop-digit.product.items c.args.factor c.loop-digit.carry c.loop-digit.digit-index (omega arith) c.loop-digit.invariant

pub loop-carry-preserved : goal.loop-carry-preserved
loop-carry-preserved g c = rest_more c.loop-carry.product.items c.push-in-loop-carry.new.self.items c.loop-carry.carry (low_value c.args.digits.now * c.args.factor) c.loop-carry-test.true c.in_ok-push-2.ensures.items c.loop-carry.invariant

pub returns : goal.returns
returns g c = rest_end c.loop-carry.product.items c.loop-carry.carry (low_value c.args.digits.now * c.args.factor) (omega arith) c.loop-carry.invariant
