use Rattle.std.proofs.Common.{◌≡◌, ◌++◌, length}
use Rattle.tas_engines.specs.Names.{names_of}
use Rattle.tas_search.specs.Words.{words_in}
use Rattle.tas_search.proofs.reading_words.words_in.Given as goal

abbrev pub invariant-loop-first : goal.invariant-loop-first
invariant-loop-first g l = l.words.items ++ words_in (names_of l.names) l.rest ≡ words_in (names_of l.names) l.text

abbrev pub decreases-loop-first : goal.decreases-loop-first
decreases-loop-first g l = length l.rest
