use Rattle.tas_published.proofs.PublishedRule.{looks}
use Rattle.tas_published.proofs.movie_reader.look_input.Goals as goal

pub enter_as-requires : goal.enter_as-requires
enter_as-requires g c = λ x. looks _ _ x
