use Rattle.std.proofs.Common.{sym, ap, ◌∙◌, subst}
use Rattle.std.proofs.lemmas.Fmt.{IsAscii-decimal}
use Rattle.std.proofs.lemmas.Str.{IsUtf8-from_ascii}
use Rattle.std.specs.Prelude.{decimal, IsUtf8}
use Rattle.byte_text.proofs.DecimalLemmas.{was_ok, was_err, same_text, not_same, parsed_is, not_parsed}
use Rattle.byte_text.proofs.decimals.read_decimal.Goals as goal

pub returns-in_err-text-clause-none : goal.returns-in_err-text-clause-none
returns-in_err-text-clause-none c = rw c.from_residual.ensures (λ n lt is.
    let found = was_err c.from_utf8.result c.in_err-text.ensures.value in
    (rw found.1 at c.from_utf8.ensures.cases).0 (subst IsUtf8 (sym is) (IsUtf8-from_ascii (decimal n) (IsAscii-decimal n lt))))

pub returns-in_err-n-clause-none : goal.returns-in_err-n-clause-none
returns-in_err-n-clause-none c = rw c.from_residual-in_err-n.ensures (λ n lt is.
    let text = rw (was_ok c.from_utf8.result c.in_ok-text.text c.in_ok-text.ensures.value) at c.from_utf8.ensures.cases in
    let found = was_err c.parse.result c.in_err-n.ensures.value in
    not_parsed n c.in_ok-text.text.now c.parse.result found.0 c.parse.ensures.value.0 (text.0 ∙ is) lt found.1)

pub returns-then-eq-clause-some : goal.returns-then-eq-clause-some
returns-then-eq-clause-some c = sym (same_text _ _ _ c.eq.ensures c.if-eq.true) ∙ c.as_bytes.ensures.value ∙ c.format.ensures.text

pub returns-else-eq-clause-none : goal.returns-else-eq-clause-none
returns-else-eq-clause-none c = λ n lt is.
    let text = rw (was_ok c.from_utf8.result c.in_ok-text.text c.in_ok-text.ensures.value) at c.from_utf8.ensures.cases in
    let read = was_ok c.parse.result c.in_ok-n.n c.in_ok-n.ensures.value in
    let same = parsed_is n c.in_ok-n.n c.in_ok-text.text.now c.parse.result c.parse.ensures.value.0 (text.0 ∙ is) lt read in
    not_same _ _ _ c.eq.ensures c.if-eq.false (c.as_bytes.ensures.value ∙ c.format.ensures.text ∙ ap decimal same ∙ sym is)
