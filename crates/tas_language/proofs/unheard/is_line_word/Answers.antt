use Rattle.tas_language.proofs.unheard.is_line_word.Goals as goal

pub returns : goal.returns
returns c = c.contains.ensures.value
