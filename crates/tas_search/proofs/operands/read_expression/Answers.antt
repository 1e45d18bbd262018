use Rattle.std.proofs.lemmas.Grind.{common_steps}
use Rattle.std.proofs.Common.{◌<◌, length, sym, arith}
use Rattle.std.proofs.lemmas.Bool.{eqb-false}
use Rattle.std.proofs.lemmas.Result.{err_from_is_err_and}
use Rattle.tas_search.specs.Grammar.{tree_of}
use Rattle.tas_search.proofs.GrammarLemmas.{whole_operator}
use Rattle.tas_search.proofs.OperandLemmas.{whole_first_fault, whole_second_fault, whole_end_fault}
use Rattle.tas_search.proofs.operands.read_expression.Goals as goal

pub returns-in_err-a-clause-fault : goal.returns-in_err-a-clause-fault
returns-in_err-a-clause-fault g c =
    let p = err_from_is_err_and c.from_residual.result c.from_residual.ensures.1 in
    rw (p.1, p.2) (whole_first_fault c.args.words.now c.in_err-a.field-0.0 c.in_err-a.ensures.fault)

pub returns-in_default-clause-fault : goal.returns-in_default-clause-fault
returns-in_default-clause-fault g c =
    whole_operator (tree_of c.in_ok-a.a) c.args.words.now c.in_ok-a.rest.now c.in_ok-a.ensures.within c.in_ok-a.ensures.read (omega (arith, eqb-false (length c.in_ok-a.rest.now) 0 (sym c.if-is_empty.ensures))) c.in_default.ensures.none

pub returns-in_err-b-clause-fault : goal.returns-in_err-b-clause-fault
returns-in_err-b-clause-fault g c =
    let p = err_from_is_err_and c.from_residual-in_err-b.result c.from_residual-in_err-b.ensures.1 in
    rw (p.1, p.2) (whole_second_fault c.args.words.now c.in_ok-a.rest.now c.in-Some.right.now (tree_of c.in_ok-a.a) c.in-Some.operator c.in_err-b.field-0.0 c.in_ok-a.ensures.read c.in_ok-a.ensures.within c.in-Some.ensures.some c.in_err-b.ensures.fault)

pub returns-then-not-is_empty-clause-fault : goal.returns-then-not-is_empty-clause-fault
returns-then-not-is_empty-clause-fault g c =
    let lt : 0 < length c.in_ok-b.last.now = omega (arith, eqb-false (length c.in_ok-b.last.now) 0 (sym c.if-not-is_empty.ensures)) in
    whole_end_fault c.args.words.now c.in_ok-a.rest.now c.in-Some.right.now c.in_ok-b.last.now (tree_of c.in_ok-a.a) (tree_of c.in_ok-b.b) c.in-Some.operator c.in_ok-a.ensures.read c.in_ok-a.ensures.within c.in-Some.ensures.some
    c.in_ok-b.ensures.read c.in_ok-b.ensures.within lt

pub returns-clause-read : goal.returns-clause-read
returns-clause-read g c = grind (arith, common_steps)
