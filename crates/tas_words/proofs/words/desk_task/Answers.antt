use Rattle.std.proofs.Common.{arith, codes, refl, sym}
use Rattle.std.proofs.lemmas.Grind.{common_steps}
use Rattle.clap.specs.Walk.{rows_of}
use Rattle.clap.specs.Words.{found_of}
use Rattle.tas_words.proofs.CommandLineLemmas.{found_word}
use Rattle.tas_words.proofs.words.desk_task.Goals as goal

pub returns : goal.returns
returns c = (
  refl,
  record {
    cart = sym c.in_ok-word_of.ensures;
    movie = sym c.in_ok-word_of-2.ensures;
    pairs = c.in_ok-pairs_of.ensures;
    journal = found_word (rows_of (found_of c.args.matches.now)) (codes "JOURNAL") _ c.word_of-journal.ensures;
  },
)

pub returns-in_err-pairs_of : goal.returns-in_err-pairs_of
returns-in_err-pairs_of c = grind (arith, common_steps)

pub returns-in_err-word_of : goal.returns-in_err-word_of
returns-in_err-word_of c = grind (arith, common_steps)

pub returns-in_err-word_of-2 : goal.returns-in_err-word_of-2
returns-in_err-word_of-2 c = grind (arith, common_steps)
