use Rattle.std.proofs.Common.{◌≡◌, ◌∙◌, sym, subst}
use Rattle.std.proofs.lemmas.Bool.{false≢true}
use Rattle.tas_engines.specs.Scripts.{IsClear}
use Rattle.tas_engines.proofs.scripts.read_words.Goals as goal

pub returns-else-is_clear-clause-none : goal.returns-else-is_clear-clause-none
returns-else-is_clear-clause-none g c = λ asked said.
    let same : asked ≡ c.in_ok-asked.asked = c.one_edit_line_per_line.ensures c.args.words.now asked c.in_ok-asked.asked said.0 c.in_ok-asked.ensures.some in
    false≢true (sym c.if-is_clear.false ∙ c.is_clear.ensures.1 (subst (IsClear c.args.other.now) same said.1))
