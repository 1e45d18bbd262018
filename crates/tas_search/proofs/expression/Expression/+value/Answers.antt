use Rattle.std.proofs.lemmas.Grind.{common_steps}
use Rattle.std.proofs.Common.{◌≡◌, arith}
use Rattle.std.proofs.lemmas.Int.{to_z-of_z}
use mir.Syntax.{w64}
use mir.Val.{to_z, of_z}
use Rattle.tas_search.specs.Expression.{weight}
use Rattle.tas_search.specs.Grammar.{tree_of}
use Rattle.tas_search.proofs.ExpressionLemmas.{applied_below}
use Rattle.tas_search.proofs.expression.Expression.+value.Goals as goal

pub returns-in-Both-clause-below : goal.returns-in-Both-clause-below
returns-in-Both-clause-below g t c =
    let a = c.value-in-Both.result in
    let b = c.value-in-Both-2.result in
    let is : to_z w64 (of_z w64 c.apply.result) ≡ c.apply.result = to_z-of_z w64 c.apply.result (record { sfits = c.apply.type_inv }) in
    let a_is : to_z w64 (of_z w64 a) ≡ a = to_z-of_z w64 a (record { sfits = c.value-in-Both.type_inv }) in
    let b_is : to_z w64 (of_z w64 b) ≡ b = to_z-of_z w64 b (record { sfits = c.value-in-Both-2.type_inv }) in
    let a_below = rw c.deref-in-Both-2.ensures at c.value-in-Both.ensures.below in
    let b_below = rw c.deref-in-Both-3.ensures at c.value-in-Both-2.ensures.below in
    rw (is, c.apply.ensures, a_is, b_is, c.in-Both.is) (applied_below c.in-Both.operator a b (weight (tree_of c.in-Both.a.value)) (weight (tree_of c.in-Both.b.value)) a_below b_below)

pub apply-requires : goal.apply-requires
apply-requires g t c = grind (arith, common_steps)

pub returns-in-Both-clause-value : goal.returns-in-Both-clause-value
returns-in-Both-clause-value g t c = grind (arith, common_steps)

pub returns-in-Pair-clause-below : goal.returns-in-Pair-clause-below
returns-in-Pair-clause-below g t c = grind (arith, common_steps)

pub returns-in-Pair-clause-value : goal.returns-in-Pair-clause-value
returns-in-Pair-clause-value g t c = grind (arith, common_steps)
