use Rattle.std.proofs.Common.{◌≡◌, ◌∙◌, sym, arith}
use Rattle.std.proofs.lemmas.List.{append_cancel_left}
use Rattle.std.specs.Prelude.{decimal}
use Rattle.tas_language.specs.Commands.{pair_text}
use Rattle.tas_language.proofs.OneCommand.{number_same, number_before}
use Rattle.tas_language.proofs.parsing.strip_frames.Goals.{then-from-to-via-then-from-to, then-from-to-via-else-from-to+then-to-from-gt-MAX_PICTURES}
use Rattle.tas_language.proofs.parsing.strip_frames.Goals as goal

pub returns-in_err-from-clause-none : goal.returns-in_err-from-clause-none
returns-in_err-from-clause-none c =
    rw c.from_residual-in_err-from.ensures
    (λ from to few less strip is. c.in_err-from.ensures.none from to few less (append_cancel_left c.args.front.now c.in_ok-rest.rest.now (pair_text from to) (sym c.in_ok-rest.ensures.some ∙ is)))

pub returns-then-from-to-clause-none : goal.returns-then-from-to-clause-none
returns-then-from-to-clause-none c = λ from to few less strip is.
    let found = c.in_ok-from.ensures.some in
    let rest = append_cancel_left c.args.front.now c.in_ok-rest.rest.now (pair_text from to) (sym c.in_ok-rest.ensures.some ∙ is) in
    let e : pair_text c.in_ok-from.from c.in_ok-from.to ≡ pair_text from to = sym found.0 ∙ rest in
    let first = number_before c.in_ok-from.from from (decimal c.in_ok-from.to) (decimal to) found.1 few e in
    let second = number_same c.in_ok-from.to to found.2 less first.1 in
    elim c.then-from-to.branch [
      | then-from-to-via-then-from-to w ↦ omega (arith, w.if-from-to.true, first.0, second, strip.0)
      | then-from-to-via-else-from-to+then-to-from-gt-MAX_PICTURES w ↦ omega (arith, w.if-to-from-gt-MAX_PICTURES.true, first.0, second, strip.1)
    ]
