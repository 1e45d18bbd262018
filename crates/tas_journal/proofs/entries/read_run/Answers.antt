use Rattle.std.proofs.Common.{◌∷◌, ◌++◌, refl, subst, arith}
use Rattle.std.specs.Prelude.{decimal}
use Rattle.tas_movie.specs.Text.{frame_text}
use Rattle.byte_text.specs.Splitting.{NoByte}
use Rattle.byte_text.proofs.SplitLemmas.{no_parts}
use Rattle.tas_journal.proofs.ReadingLemmas.{run_cut, words_after, run_is, frame_cut, frame_long, none_some}
use Rattle.tas_journal.proofs.entries.read_run.Goals as goal

pub returns-in_err-words-clause-none : goal.returns-in_err-words-clause-none
returns-in_err-words-clause-none c =
    rw c.from_residual.ensures (λ run rest small is. c.in_err-words.ensures.none ((decimal run.count ++ 32 ∷ frame_text run.input) ++ rest) is)

pub returns-in_err-word-clause-none : goal.returns-in_err-word-clause-none
returns-in_err-word-clause-none c =
    rw c.from_residual-in_err-word.ensures
    (λ run rest small is. no_parts 32 (decimal run.count) (frame_text run.input ++ rest) (subst (NoByte 32) (words_after c.args.text.now c.in_ok-words.words.now rest run c.in_ok-words.ensures.some is) c.in_err-word.ensures.none))

pub returns-in_err-count-clause-none : goal.returns-in_err-count-clause-none
returns-in_err-count-clause-none c =
    rw c.from_residual-in_err-count.ensures
    (λ run rest small is. c.in_err-count.ensures.none run.count small (run_cut _ _ _ _ rest run c.in_ok-words.ensures.some c.in_ok-word.ensures.some.0 c.in_ok-word.ensures.some.1 small is).0)

pub returns-then-letters-lt-FRAME_TEXT_SIZE-clause-none : goal.returns-then-letters-lt-FRAME_TEXT_SIZE-clause-none
returns-then-letters-lt-FRAME_TEXT_SIZE-clause-none c = λ run rest small is.
    let long = frame_long _ rest run.input (run_cut _ _ _ _ rest run c.in_ok-words.ensures.some c.in_ok-word.ensures.some.0 c.in_ok-word.ensures.some.1 small is).1 in
    omega (arith, long)

pub returns-in_err-input-clause-none : goal.returns-in_err-input-clause-none
returns-in_err-input-clause-none c =
    rw c.from_residual-in_err-input.ensures
    (λ run rest small is.
    let letters = (run_cut _ _ _ _ rest run c.in_ok-words.ensures.some c.in_ok-word.ensures.some.0 c.in_ok-word.ensures.some.1 small is).1 in
    none_some run.input (c.in_err-input.ensures.all run.input (frame_cut _ _ rest run.input letters c.split_at.ensures.front)))

pub returns-clause-some : goal.returns-clause-some
returns-clause-some c = (
  run_is _ _ _ _ _ _ c.in_ok-input.input c.in_ok-count.count c.in_ok-words.ensures.some c.in_ok-word.ensures.some.0 c.in_ok-count.ensures.some.0 c.split_at.ensures.front c.split_at.ensures.back c.in_ok-input.ensures.some,
  c.in_ok-count.ensures.some.1,
)
