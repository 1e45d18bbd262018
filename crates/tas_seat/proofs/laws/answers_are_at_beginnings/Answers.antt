use Rattle.tas_published.proofs.PrefixLemmas.{prefix_trans}
use Rattle.tas_seat.proofs.HistoryLemmas.{answer_begins, exchange_begins, exchange_grows}
use Rattle.tas_seat.proofs.laws.answers_are_at_beginnings.Goals as goal

pub returns : goal.returns
returns g c = record {
  at = λ before now history edits is. answer_begins before now history edits is;
  begins = λ start last before after x history are begins. prefix_trans x.next.seat.front last.seat.front history (exchange_begins start last before after x are) begins;
  grows = λ start last before between after x y are. exchange_grows start last before between after x y are;
}
