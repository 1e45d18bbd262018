use Rattle.std.proofs.Common.{◌≡◌, ℕ, ◌+◌, ◌-◌, ◌≤◌, Result, length, take}
use Rattle.tas_movie.specs.Content.{MovieContent}
use Rattle.tas_movie.specs.Fault.{split_lines}
use Rattle.tas_journal.specs.declared.error.JournalError.{JournalError}
use Rattle.tas_journal.specs.Recovery.{LinesMake}
use Rattle.tas_journal.proofs.RecoverLemmas.{Makes}
use Rattle.tas_journal.proofs.recovering.make_lines.Given as goal

abbrev pub invariant-loop-edits : goal.invariant-loop-edits
invariant-loop-edits g l = record {
  made : (result : Result MovieContent JournalError) → Makes g.row.A.Denot l.first l.edits l.most l.movie l.rest result → LinesMake g.row.A.Denot l.first 0 l.fn.movie (take l.most (split_lines l.text).lines) result;
  lines : length (split_lines l.text).lines ≡ l.edits + length (split_lines l.rest).lines;
  last : (split_lines l.text).rest ≡ (split_lines l.rest).rest;
  bound : l.edits ≤ l.most;
  fits : l.edits + length l.rest ≤ length l.text;
}

abbrev pub decreases-loop-edits : goal.decreases-loop-edits
decreases-loop-edits g l = l.most - l.edits
