use Rattle.tas_language.proofs.OneRequest.{begins_with_word}
use Rattle.tas_language.proofs.laws.lines_begin_with_their_words.Goals as goal

pub returns : goal.returns
returns c = begins_with_word
