use Rattle.std.proofs.Common.{◌≡◌, Some, subst, ap, length, arith, ◌∙◌}
use Rattle.std.specs.Prelude.{slice_get}
use Rattle.tas_movie.specs.Content.{MovieContent}
use Rattle.tas_seat.proofs.DraftEditLemmas.{input_answered, no_input_answered}
use Rattle.tas_seat.proofs.draft.Draft.show_input.Goals as goal

pub returns-then-frame-len : goal.returns-then-frame-len
returns-then-frame-len g c =
    no_input_answered c.args.self.now c.args.frame c.edits-at.result c.len-len.result c.edits-at.ensures.at (c.len-len.ensures.len ∙ ap (λ (m : MovieContent). length m.inputs) c.movie.ensures.movie) (omega (arith, c.if-frame-len.true))

pub returns : goal.returns
returns g c =
    input_answered c.args.self.now c.args.frame c.edits-at.result c.input.result c.edits-at.ensures.at (subst (λ (m : MovieContent). slice_get m.inputs c.args.frame ≡ Some c.input.result) c.movie-2.ensures.movie c.input.ensures)
