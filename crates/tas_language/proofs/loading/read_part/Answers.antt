use Rattle.std.proofs.Common.{arith}
use Rattle.std.proofs.lemmas.Grind.{common_steps}
use Rattle.tas_language.proofs.PartLemmas.{spaced, word_of}
use Rattle.tas_language.proofs.loading.read_part.Goals as goal

pub returns-in_err-write_part-clause-none : goal.returns-in_err-write_part-clause-none
returns-in_err-write_part-clause-none c =
    rw c.from_residual-in_err-write_part.ensures
    (λ part rest is-part end is.
    let whole = spaced c.args.text.now c.in_ok-first.field-0-0.now c.in_ok-first.words.now c.first_word.result.0.now c.first_word.result.1.now c.in_ok-first.ensures.cases.0 c.if-first-ne32.false c.first_word.ensures.bytes in
    c.in_err-write_part.ensures.other part is-part (word_of c.args.text.now c.first_word.result.0.now c.first_word.result.1.now rest part whole c.first_word.ensures.word c.first_word.ensures.end end is))

pub returns-clause-some : goal.returns-clause-some
returns-clause-some c = grind (arith, common_steps)
