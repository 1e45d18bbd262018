use Rattle.tas_search.specs.Grammar.{tree_of}
use Rattle.tas_search.proofs.ExpressionLemmas.{weight_positive}
use Rattle.tas_search.proofs.expression.Expression.weigh_something.Goals as goal

pub returns : goal.returns
returns g c = weight_positive (tree_of c.args.self.now)
