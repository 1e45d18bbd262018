use Rattle.tas_engines.proofs.RemarkLemmas.{all_words, words_before}
use Rattle.tas_verify.proofs.manifest.words_of.Goals as goal

pub returns-in-Some : goal.returns-in-Some
returns-in-Some c = words_before _ _ _ _ c.in-Some.ensures.some.0 c.in-Some.ensures.some.1 c.trimmed.ensures

pub returns-in-None : goal.returns-in-None
returns-in-None c = all_words _ c.in-None.ensures.none
