use Rattle.tas_seat.proofs.HistoryLemmas.{talk_in_history}
use Rattle.tas_seat.proofs.laws.talks_are_in_history.Goals as goal

pub returns : goal.returns
returns g c = record {
  shows = λ start last input input' output output' end talk history seen settled. (talk_in_history start last input input' output output' end talk history seen settled).0;
  never_foreign = λ start last input input' output output' end history talk seen settled. (talk_in_history start last input input' output output' end talk history seen settled).1;
}
