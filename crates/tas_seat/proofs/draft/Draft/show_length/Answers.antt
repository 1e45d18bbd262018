use Rattle.std.proofs.Common.{ap, length, ◌∙◌}
use Rattle.tas_movie.specs.Content.{MovieContent}
use Rattle.tas_seat.proofs.DraftEditLemmas.{length_answered}
use Rattle.tas_seat.proofs.draft.Draft.show_length.Goals as goal

pub returns : goal.returns
returns g c = length_answered c.args.self.now c.edits.result c.len.result c.edits.ensures.at (c.len.ensures.len ∙ ap (λ (m : MovieContent). length m.inputs) c.movie.ensures.movie)
