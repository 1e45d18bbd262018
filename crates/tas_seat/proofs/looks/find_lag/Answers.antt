use Rattle.std.proofs.Common.{◌∙◌, List, ℕ, Some, ap, sym}
use Rattle.std.proofs.lemmas.Result.{IfOk-weaker}
use Rattle.tas_language.specs.Answers.{lag_text}
use Rattle.tas_seat.specs.Turns.{standing_at}
use Rattle.tas_seat.proofs.ReachLemmas.{lag_there}
use Rattle.tas_seat.proofs.looks.find_lag.Goals as goal

pub returns : goal.returns
returns g c =
    IfOk-weaker c.lag_answer.result _ _
    (λ bytes is.
    lag_there (standing_at c.args.movie.now c.args.at) c.args.from c.args.to c.requires.order c.requires.within
    ∙ ap (λ (l : List ℕ). Some l) (sym (is ∙ ap (lag_text c.args.at c.args.from c.args.to) (c.as_slice.ensures.value ∙ c.in_ok-lines.ensures.lines)))) c.lag_answer.ensures
