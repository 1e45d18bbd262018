use Rattle.std.proofs.Common.{arith}
use Rattle.tas_search.proofs.PartLemmas.{end_within, product_fits}
use Rattle.tas_search.proofs.space_part.part_end.Goals as goal

pub overflow_mul-product : goal.overflow_mul-product
overflow_mul-product c = let fits = product_fits c.args.parts c.args.choices (omega arith) (omega arith) in omega (arith, fits)

pub overflow_cast-end : goal.overflow_cast-end
overflow_cast-end c = let within = end_within c.args.parts c.args.of c.args.choices c.requires.some c.requires.within in omega (arith, within)

pub returns-clause-within : goal.returns-clause-within
returns-clause-within c = end_within c.args.parts c.args.of c.args.choices c.requires.some c.requires.within
