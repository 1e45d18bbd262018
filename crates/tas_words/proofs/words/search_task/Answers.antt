use Rattle.std.proofs.Common.{codes, refl, sym}
use Rattle.clap.specs.Walk.{rows_of}
use Rattle.clap.specs.Words.{found_of}
use Rattle.tas_words.proofs.CommandLineLemmas.{found_word}
use Rattle.tas_words.proofs.words.search_task.Goals as goal

pub returns : goal.returns
returns c = (
  refl,
  record {
    cart = sym c.in_ok-word_of.ensures;
    from = c.in_ok-frame_of.ensures;
    frames = c.in_ok-frames_of.ensures;
    goal = sym c.in_ok-word_of-2.ensures;
    choices = found_word (rows_of (found_of c.args.matches.now)) (codes "CHOICES") _ c.word_of-3.ensures;
    names = found_word (rows_of (found_of c.args.matches.now)) (codes "NAMES") _ c.word_of-4.ensures;
    hold = c.in_ok-number_or.ensures;
    part = c.in_ok-part_of.ensures.some;
    states = c.in_ok-number_or-2.ensures;
    workers = c.in_ok-number_or-3.ensures;
    report = found_word (rows_of (found_of c.args.matches.now)) (codes "REPORT") _ c.word_of-5.ensures;
  },
)
