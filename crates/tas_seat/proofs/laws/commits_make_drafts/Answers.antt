use Rattle.tas_seat.proofs.CommitLemmas.{draft_has_base, commit_makes_draft}
use Rattle.tas_seat.proofs.laws.commits_make_drafts.Goals as goal

pub returns : goal.returns
returns g c = record {
  base = λ start last exchanges draft history are opened more long. draft_has_base start last exchanges draft history are opened more long;
  made = λ start seat exchanges x draft are is opened heard gone. commit_makes_draft start seat exchanges x draft are is opened heard gone;
}
