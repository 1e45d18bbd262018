use Rattle.tas_seat.proofs.PartLemmas.{commit_is_whole, part_goes_on}
use Rattle.tas_seat.proofs.laws.parts_have_whole_commits.Goals as goal

pub returns : goal.returns
returns g c = record {
  whole = λ base new first next seat serial before after from is le. commit_is_whole base new first next seat serial before after from is le;
  goes_on = λ history front from legal begins less. part_goes_on history front from legal begins less;
}
