use Rattle.std.proofs.Common.{◌++◌, ℕ, List, ap, sym, ◌∙◌}
use Rattle.tas_journal.proofs.HeadLemmas.{line_found, rest_found}
use Rattle.tas_journal.proofs.head.movie_parts.Goals as goal

pub returns-in_default-clause-none : goal.returns-in_default-clause-none
returns-in_default-clause-none g c = c.in_default.ensures.none

pub returns-in_default-after_prefix-clause-none : goal.returns-in_default-after_prefix-clause-none
returns-in_default-after_prefix-clause-none g c = λ text rest short is.
    c.in_default-after_prefix.ensures.none (text ++ rest) (line_found c.args.bytes.now c.in-Some.text.now _ text rest (c.in-Some.ensures.some text rest short is) (c.as_slice.ensures.value ∙ c.in_ok-line.ensures) is)

pub returns-clause-none : goal.returns-clause-none
returns-clause-none g c = λ text rest short is.
    let same = c.in-Some.ensures.some text rest short is in
    let found = line_found c.args.bytes.now c.in-Some.text.now _ text rest same (c.as_slice.ensures.value ∙ c.in_ok-line.ensures) is in
    let after = rest_found c.args.bytes.now _ c.in-Some-after_prefix.after.now text rest c.in-Some-after_prefix.ensures.some found in
    c.in-None.ensures.none rest (after ∙ ap (λ (t : List ℕ). t ++ rest) (sym same))
