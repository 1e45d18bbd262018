use Rattle.std.proofs.Common.{◌∙◌, sym}
use Rattle.std.proofs.lemmas.List.{append_cancel_left}
use Rattle.std.specs.Prelude.{decimal}
use Rattle.tas_language.proofs.WordLemmas.{none_then}
use Rattle.tas_language.proofs.parsing.numbered.Goals as goal

pub returns-clause-none : goal.returns-clause-none
returns-clause-none c =
    none_then _ _ c.number.result c.number.ensures.none
    (λ no n small is. no n small (append_cancel_left c.args.front.now c.in_ok-rest.rest.now (decimal n) (sym c.in_ok-rest.ensures.some ∙ is)))
