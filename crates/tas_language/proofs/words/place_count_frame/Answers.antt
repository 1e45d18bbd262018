use Rattle.std.proofs.Common.{◌∷◌, ◌++◌, subst}
use Rattle.std.specs.Prelude.{decimal}
use Rattle.tas_movie.specs.Text.{frame_text}
use Rattle.byte_text.specs.Splitting.{NoByte}
use Rattle.tas_language.proofs.WordLemmas.{number_first}
use Rattle.byte_text.proofs.SplitLemmas.{no_parts}
use Rattle.tas_language.proofs.words.place_count_frame.Goals as goal

pub returns-in_err-first-clause-none : goal.returns-in_err-first-clause-none
returns-in_err-first-clause-none c =
    rw c.from_residual.ensures
    (λ at count input la lc is. no_parts 32 (decimal at) (decimal count ++ 32 ∷ frame_text input) (subst (NoByte 32) is c.in_err-first.ensures.none))

pub returns-in_err-at-clause-none : goal.returns-in_err-at-clause-none
returns-in_err-at-clause-none c =
    rw c.from_residual-in_err-at.ensures
    (λ at count input la lc is. c.in_err-at.ensures.none at la (number_first _ _ _ (decimal count ++ 32 ∷ frame_text input) at c.in_ok-first.ensures.some.0 c.in_ok-first.ensures.some.1 la is).0)

pub returns-in_err-count-clause-none : goal.returns-in_err-count-clause-none
returns-in_err-count-clause-none c =
    rw c.from_residual-in_err-count.ensures
    (λ at count input la lc is. c.in_err-count.ensures.none count input lc (number_first _ _ _ (decimal count ++ 32 ∷ frame_text input) at c.in_ok-first.ensures.some.0 c.in_ok-first.ensures.some.1 la is).1)
