use Rattle.std.proofs.Common.{List, ℕ, ◌++◌, ◌∷◌, refl, ap, ◌∙◌, subst}
use Rattle.std.specs.Prelude.{decimal}
use Rattle.tas_movie.specs.Text.{frame_text}
use Rattle.byte_text.specs.Splitting.{NoByte}
use Rattle.tas_language.proofs.WordLemmas.{none_some, number_first}
use Rattle.byte_text.proofs.SplitLemmas.{no_parts}
use Rattle.tas_language.proofs.words.count_and_frame.Goals as goal

pub returns-in_err-first-clause-none : goal.returns-in_err-first-clause-none
returns-in_err-first-clause-none c =
    rw c.from_residual.ensures
    (λ count input le is. no_parts 32 (decimal count) (frame_text input) (subst (NoByte 32) is c.in_err-first.ensures.none))

pub returns-in_err-count-clause-none : goal.returns-in_err-count-clause-none
returns-in_err-count-clause-none c =
    rw c.from_residual-in_err-count.ensures
    (λ count input le is. c.in_err-count.ensures.none count le (number_first _ _ _ (frame_text input) count c.in_ok-first.ensures.some.0 c.in_ok-first.ensures.some.1 le is).0)

pub returns-in_err-input-clause-none : goal.returns-in_err-input-clause-none
returns-in_err-input-clause-none c =
    rw c.from_residual-in_err-input.ensures
    (λ count input le is. none_some _ input refl (c.in_err-input.ensures.all input (number_first _ _ _ (frame_text input) count c.in_ok-first.ensures.some.0 c.in_ok-first.ensures.some.1 le is).1))

pub returns-clause-some : goal.returns-clause-some
returns-clause-some c = (
  c.in_ok-first.ensures.some.0
      ∙ ap (λ (r : List ℕ). r ++ 32 ∷ c.in_ok-first.second.now) c.in_ok-count.ensures.some.0
      ∙ ap (λ (r : List ℕ). decimal c.in_ok-count.count ++ 32 ∷ r) c.in_ok-input.ensures.some,
  c.in_ok-count.ensures.some.1,
)
