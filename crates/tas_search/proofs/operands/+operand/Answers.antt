use Rattle.std.proofs.lemmas.Grind.{common_steps}
use Rattle.std.proofs.Common.{◌≡◌, ◌-◌, ◌∷◌, ap, ◌∙◌, arith}
use Rattle.std.proofs.lemmas.Result.{err_from_is_err_and}
use Rattle.tas_search.specs.declared.word.Word.{Word}
use Rattle.tas_search.specs.declared.word.Word.TheVariants as word
use Rattle.tas_search.specs.Grammar.{tree_of}
use Rattle.tas_search.proofs.OperandLemmas.{empty_fault, other_fault, deep_fault, not_fault, first_fault, operator_fault, second_fault, close_fault}
use Rattle.tas_search.proofs.operands.+operand.Goals as goal

pub returns-in_default-clause-fault : goal.returns-in_default-clause-fault
returns-in_default-clause-fault g t c = empty_fault c.args.levels c.args.words.now c.in_default.ensures.cases

pub returns-then-levels-eq0-clause-fault : goal.returns-then-levels-eq0-clause-fault
returns-then-levels-eq0-clause-fault g t c =
    let rest = c.in-Some.rest.now in
    let is : c.args.words.now ≡ word.Not ∷ rest = c.in-Some.ensures.cases.0 ∙ ap (λ (w : Word). w ∷ rest) c.in-Not.is in
    deep_fault c.args.levels c.args.words.now rest word.Not c.if-levels-eq0.true is tt

pub returns-in_err-e-in-Not-clause-fault : goal.returns-in_err-e-in-Not-clause-fault
returns-in_err-e-in-Not-clause-fault g t c =
    let rest = c.in-Some.rest.now in
    let is : c.args.words.now ≡ word.Not ∷ rest = c.in-Some.ensures.cases.0 ∙ ap (λ (w : Word). w ∷ rest) c.in-Not.is in
    let p = err_from_is_err_and c.from_residual.result c.from_residual.ensures.1 in
    rw (p.1, p.2) (not_fault (c.args.levels - 1) c.args.levels c.args.words.now rest c.in_err-e-in-Not.field-0.0 (omega (arith, c.if-levels-eq0.false)) is c.in_err-e-in-Not.ensures.fault)

pub returns-then-levels-eq0-2-clause-fault : goal.returns-then-levels-eq0-2-clause-fault
returns-then-levels-eq0-2-clause-fault g t c =
    let rest = c.in-Some.rest.now in
    let is : c.args.words.now ≡ word.Open ∷ rest = c.in-Some.ensures.cases.0 ∙ ap (λ (w : Word). w ∷ rest) c.in-Open.is in
    deep_fault c.args.levels c.args.words.now rest word.Open c.if-levels-eq0-2.true is tt

pub returns-in_err-a-in-Open-clause-fault : goal.returns-in_err-a-in-Open-clause-fault
returns-in_err-a-in-Open-clause-fault g t c =
    let rest = c.in-Some.rest.now in
    let is : c.args.words.now ≡ word.Open ∷ rest = c.in-Some.ensures.cases.0 ∙ ap (λ (w : Word). w ∷ rest) c.in-Open.is in
    let p = err_from_is_err_and c.from_residual-in_err-a-in-Open.result c.from_residual-in_err-a-in-Open.ensures.1 in
    rw (p.1, p.2) (first_fault (c.args.levels - 1) c.args.levels c.args.words.now rest c.in_err-a-in-Open.field-0.0 (omega (arith, c.if-levels-eq0-2.false)) is c.in_err-a-in-Open.ensures.fault)

pub returns-in_default-split_operator-clause-fault : goal.returns-in_default-split_operator-clause-fault
returns-in_default-split_operator-clause-fault g t c =
    let rest = c.in-Some.rest.now in
    let is : c.args.words.now ≡ word.Open ∷ rest = c.in-Some.ensures.cases.0 ∙ ap (λ (w : Word). w ∷ rest) c.in-Open.is in
    operator_fault (c.args.levels - 1) c.args.levels c.args.words.now rest c.in_ok-a-in-Open.more.now (tree_of c.in_ok-a-in-Open.a) (omega (arith, c.if-levels-eq0-2.false)) is c.in_ok-a-in-Open.ensures.read
    c.in_ok-a-in-Open.ensures.within c.in_default-split_operator.ensures.none

pub returns-in_err-b-in-Open-clause-fault : goal.returns-in_err-b-in-Open-clause-fault
returns-in_err-b-in-Open-clause-fault g t c =
    let rest = c.in-Some.rest.now in
    let is : c.args.words.now ≡ word.Open ∷ rest = c.in-Some.ensures.cases.0 ∙ ap (λ (w : Word). w ∷ rest) c.in-Open.is in
    let p = err_from_is_err_and c.from_residual-in_err-b-in-Open.result c.from_residual-in_err-b-in-Open.ensures.1 in
    rw (p.1, p.2) (second_fault (c.args.levels - 1) c.args.levels c.args.words.now rest c.in_ok-a-in-Open.more.now c.in-Some-split_operator.right.now (tree_of c.in_ok-a-in-Open.a) c.in-Some-split_operator.operator c.in_err-b-in-Open.field-0.0
    (omega (arith, c.if-levels-eq0-2.false)) is c.in_ok-a-in-Open.ensures.read c.in_ok-a-in-Open.ensures.within c.in-Some-split_operator.ensures.some c.in_err-b-in-Open.ensures.fault)

pub returns-in_default-after_close-clause-fault : goal.returns-in_default-after_close-clause-fault
returns-in_default-after_close-clause-fault g t c =
    let rest = c.in-Some.rest.now in
    let is : c.args.words.now ≡ word.Open ∷ rest = c.in-Some.ensures.cases.0 ∙ ap (λ (w : Word). w ∷ rest) c.in-Open.is in
    close_fault (c.args.levels - 1) c.args.levels c.args.words.now rest c.in_ok-a-in-Open.more.now c.in-Some-split_operator.right.now c.in_ok-b-in-Open.last.now (tree_of c.in_ok-a-in-Open.a) (tree_of c.in_ok-b-in-Open.b)
    c.in-Some-split_operator.operator (omega (arith, c.if-levels-eq0-2.false)) is c.in_ok-a-in-Open.ensures.read c.in_ok-a-in-Open.ensures.within c.in-Some-split_operator.ensures.some c.in_ok-b-in-Open.ensures.read
    c.in_ok-b-in-Open.ensures.within c.in_default-after_close.ensures.none

pub returns-in-Close-clause-fault : goal.returns-in-Close-clause-fault
returns-in-Close-clause-fault g t c =
    let rest = c.in-Some.rest.now in
    let is : c.args.words.now ≡ word.Close ∷ rest = c.in-Some.ensures.cases.0 ∙ ap (λ (w : Word). w ∷ rest) c.in-Close.is in
    other_fault c.args.levels c.args.words.now rest word.Close is (λ h. h)

pub returns-in-Operator-clause-fault : goal.returns-in-Operator-clause-fault
returns-in-Operator-clause-fault g t c =
    let rest = c.in-Some.rest.now in
    let is : c.args.words.now ≡ word.Operator c.in-Operator.field-0 ∷ rest = c.in-Some.ensures.cases.0 ∙ ap (λ (w : Word). w ∷ rest) c.in-Operator.is in
    other_fault c.args.levels c.args.words.now rest (word.Operator c.in-Operator.field-0) is (λ h. h)

pub returns-in-Other-clause-fault : goal.returns-in-Other-clause-fault
returns-in-Other-clause-fault g t c =
    let rest = c.in-Some.rest.now in
    let is : c.args.words.now ≡ word.Other ∷ rest = c.in-Some.ensures.cases.0 ∙ ap (λ (w : Word). w ∷ rest) c.in-Other.is in
    other_fault c.args.levels c.args.words.now rest word.Other is (λ h. h)

pub returns-in_ok-join-in-Open-clause-within : goal.returns-in_ok-join-in-Open-clause-within
returns-in_ok-join-in-Open-clause-within g t c = grind (arith, common_steps)
