use Rattle.std.proofs.Common.{◌++◌, ◌∙◌, ap, List, ℕ}
use Rattle.tas_movie.specs.Text.{text2}
use Rattle.tas_movie.proofs.printing.print_text.Goals as goal

pub returns-in-Ok : goal.returns-in-Ok
returns-in-Ok g c = c.in-Ok.ensures.all ∙ ap (λ (l : List ℕ). l ++ text2 c.args.movie.now) c.in_ok-out.ensures.items
