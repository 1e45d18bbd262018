use Rattle.std.proofs.Common.{◌∙◌, ap, List, ℕ, length, arith}
use Rattle.std.specs.Prelude.{codes}
use Rattle.byte_text.proofs.Sendings.{pushed_length}
use Rattle.tas_movie.proofs.PrintLemmas.{digits_length, count_length, pushed_none, pushed_count}
use Rattle.tas_movie.proofs.printing.push_count.Goals as goal

pub returns-then-count-eq1-clause-waits : goal.returns-then-count-eq1-clause-waits
returns-then-count-eq1-clause-waits c = pushed_none c.args.out.now c.args.count c.if-count-eq1.true

pub returns-then-count-eq1-clause-short : goal.returns-then-count-eq1-clause-short
returns-then-count-eq1-clause-short c = count_length c.args.count c.requires.few

pub push-requires-2 : goal.push-requires-2
push-requires-2 c =
    let grown = pushed_length c.args.out.now c.push.new.self (codes " x") c.push.ensures in
    let text = ap (λ (l : List ℕ). length l) (c.as_bytes.ensures.value ∙ c.format.ensures.text) in
    omega (arith, grown, text, digits_length c.args.count c.requires.few, c.requires.room)

pub returns-clause-waits : goal.returns-clause-waits
returns-clause-waits c =
    pushed_count c.args.out.now c.push.new.self c.push-2.new.self _ c.args.count c.if-count-eq1.false (c.as_bytes.ensures.value ∙ c.format.ensures.text) c.push.ensures c.push-2.ensures

pub returns-clause-short : goal.returns-clause-short
returns-clause-short c = count_length c.args.count c.requires.few
