use Rattle.std.proofs.lemmas.Bool.Decides.{Decides-eqb}
use Rattle.std.proofs.lemmas.Slice.Eq.{strip_prefix_is}
use Rattle.tas_language.proofs.WordLemmas.{if_there, if_none}
use Rattle.tas_language.proofs.words.after_prefix.Goals as goal

pub returns-clause-some : goal.returns-clause-some
returns-clause-some c = if_there _ _ c.strip_prefix.result (strip_prefix_is Decides-eqb c.args.line.now c.args.front.now c.strip_prefix.result c.strip_prefix.ensures.cases)

pub returns-clause-none : goal.returns-clause-none
returns-clause-none c = if_none _ _ c.strip_prefix.result (strip_prefix_is Decides-eqb c.args.line.now c.args.front.now c.strip_prefix.result c.strip_prefix.ensures.cases)
