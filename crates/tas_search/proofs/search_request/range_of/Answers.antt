use Rattle.tas_search.proofs.SearchLemmas.{no_range}
use Rattle.tas_search.proofs.search_request.range_of.Goals as goal

pub returns-then-search-ne0-clause-none : goal.returns-then-search-ne0-clause-none
returns-then-search-ne0-clause-none c = no_range c.args.search.now.hold c.args.search.now.frames c.if-search-ne0.true
