use Rattle.std.proofs.Common.{◌++◌, List, ℕ, ap, ◌∙◌}
use Rattle.tas_language.proofs.looks.lag_answer.Goals as goal

pub returns : goal.returns
returns g c = c.in_ok-extend_from_slice.ensures.items ∙ ap (λ (l : List ℕ). l ++ c.args.lines.now) c.in_ok-bytes.ensures
