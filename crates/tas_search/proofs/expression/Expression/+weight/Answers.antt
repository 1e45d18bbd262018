use Rattle.std.proofs.Common.{arith}
use Rattle.tas_search.specs.Expression.{weight}
use Rattle.tas_search.specs.Grammar.{tree_of}
use Rattle.tas_search.proofs.ExpressionLemmas.{joined_left, joined_right, weight_positive}
use Rattle.tas_search.proofs.expression.Expression.+weight.Goals as goal

pub returns-in_err-weight-in-Both : goal.returns-in_err-weight-in-Both
returns-in_err-weight-in-Both g t c =
    let h = rw c.deref-in-Both.ensures at c.in_err-weight-in-Both.ensures in
    rw c.from_residual-in_err-weight-in-Both.ensures
    (rw c.in-Both.is (omega (arith, h, joined_left c.in-Both.operator (weight (tree_of c.in-Both.a.value)) (weight (tree_of c.in-Both.b.value)) (weight_positive (tree_of c.in-Both.b.value)))))

pub returns-in_err-weight-in-Both-2 : goal.returns-in_err-weight-in-Both-2
returns-in_err-weight-in-Both-2 g t c =
    let h = rw c.deref-in-Both-2.ensures at c.in_err-weight-in-Both-2.ensures in
    rw c.from_residual-in_err-weight-in-Both-2.ensures
    (rw c.in-Both.is (omega (arith, h, joined_right c.in-Both.operator (weight (tree_of c.in-Both.a.value)) (weight (tree_of c.in-Both.b.value)) (weight_positive (tree_of c.in-Both.a.value)))))
