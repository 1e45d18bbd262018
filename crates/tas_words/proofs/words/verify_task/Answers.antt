use Rattle.std.proofs.Common.{codes, refl}
use Rattle.clap.specs.Walk.{rows_of}
use Rattle.clap.specs.Words.{found_of}
use Rattle.tas_words.proofs.CommandLineLemmas.{found_word}
use Rattle.tas_words.proofs.words.verify_task.Goals as goal

pub returns : goal.returns
returns c = (
  refl,
  record {
    carts = found_word (rows_of (found_of c.args.matches.now)) (codes "DIR") _ c.word_of.ensures;
    workers = c.in_ok-number_or.ensures;
  },
)
