use Rattle.std.proofs.Common.{◌∙◌, ap}
use Rattle.tas_movie.specs.Content.{MovieContent}
use Rattle.tas_movie.proofs.movie.Movie.inputs.Goals as goal

pub returns-clause-inputs : goal.returns-clause-inputs
returns-clause-inputs g c = c.as_slice.ensures.value ∙ ap (λ (m : MovieContent). m.inputs) c.self.view_is
