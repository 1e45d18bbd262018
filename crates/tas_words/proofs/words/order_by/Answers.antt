use Rattle.tas_words.proofs.CommandLineLemmas.{met_asked}
use Rattle.tas_words.proofs.words.order_by.Goals as goal

pub returns-in-Some : goal.returns-in-Some
returns-in-Some g c = met_asked c.args.line.now _ c.in_ok-matches.matches c.in-Some.order.task c.in-Some.order.output c.requires c.in_ok-matches.ensures.ok.2 c.in-Some.ensures
