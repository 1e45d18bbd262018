use Rattle.std.proofs.Common.{◌≡◌, ◌≤◌, List, length}
use Rattle.vcs_inputs.specs.declared.input.Input.{Input}
use Rattle.tas_movie.specs.Content.{most_inputs}
use Rattle.tas_journal.specs.Text.{frames_words}
use Rattle.tas_journal.proofs.ReadingLemmas.{Remain}
use Rattle.tas_journal.proofs.entries.read_frames.Given as goal

abbrev pub invariant-loop-rest : goal.invariant-loop-rest
invariant-loop-rest g l = record {
  bound : length l.list.items ≤ most_inputs;
  all : (inputs : List Input) → length inputs ≤ most_inputs → l.text ≡ frames_words inputs → Remain inputs l.list.items l.rest;
}

abbrev pub decreases-loop-rest : goal.decreases-loop-rest
decreases-loop-rest g l = length l.rest
