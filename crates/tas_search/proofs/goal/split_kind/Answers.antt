use Rattle.std.proofs.Common.{◌≡◌, false, rules}
use Rattle.std.specs.Prelude.{codes}
use Rattle.std.specs.Str.{bytes_eq}
use Rattle.tas_search.proofs.TextLemmas.{no_kind}
use Rattle.tas_search.proofs.goal.split_kind.Goals as goal

pub returns-clause-none : goal.returns-clause-none
returns-clause-none c = λ kind said is.
    let reach : bytes_eq c.in_ok-first.first.now (codes "reach") ≡ false = search rules in
    let most : bytes_eq c.in_ok-first.first.now (codes "most") ≡ false = search rules in
    let least : bytes_eq c.in_ok-first.first.now (codes "least") ≡ false = search rules in
    no_kind c.args.text.now c.in_ok-first.first.now c.in_ok-first.said.now c.in_ok-first.ensures.some.0 c.in_ok-first.ensures.some.1 reach most least kind said is
