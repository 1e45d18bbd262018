use Rattle.std.proofs.Common.{ap, sym, ◌∙◌}
use Rattle.tas_language.specs.Unheard.{first_word}
use Rattle.tas_language.proofs.UnheardLemmas.{first_split, first_whole}
use Rattle.tas_language.proofs.unheard.first_word.Goals as goal

pub returns-in-Some : goal.returns-in-Some
returns-in-Some c = sym (ap first_word c.in-Some.ensures.some.0 ∙ first_split _ _ c.in-Some.ensures.some.1)

pub returns-in-None : goal.returns-in-None
returns-in-None c = sym (first_whole c.args.line.now c.in-None.ensures.none)
