use Rattle.std.proofs.Common.{arith}
use Rattle.tas_journal.proofs.HeadLemmas.{fault_line, text_read, no_text, fault_at_line}
use Rattle.tas_journal.proofs.head.head_movie.Goals as goal

pub returns-in_default-clause-wrong : goal.returns-in_default-clause-wrong
returns-in_default-clause-wrong g c = rw c.wrong_at.ensures (no_text c.args.text.now c.args.cart.now c.in_default.ensures.none)

pub returns-in-Err-Text-clause-wrong : goal.returns-in-Err-Text-clause-wrong
returns-in-Err-Text-clause-wrong g c = rw c.wrong_at-in-Err-Text.ensures (fault_at_line c.args.text.now c.args.cart.now _ c.in-Err-Text.error c.in-Some.ensures.some (rw c.in-Err-Text.field-0-is at c.in-Err-Text.ensures.fault))

pub returns-in-Ok-clause-text : goal.returns-in-Ok-clause-text
returns-in-Ok-clause-text g c = text_read c.args.text.now c.in-Ok.movie (_, c.in-Some.ensures.some) c.in-Ok.ensures.found.1

pub overflow_add-error : goal.overflow_add-error
overflow_add-error g c =
    let few = fault_line c.args.text.now c.args.cart.now c.in-Err-Text.error (rw c.in-Err-Text.field-0-is at c.in-Err-Text.ensures.fault) in
    omega (arith, few, c.requires)
